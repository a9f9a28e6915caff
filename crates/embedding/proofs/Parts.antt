-- The part of a body.
use Rattle.std.proofs.Common.{◌≡◌, ℕ, ap, refl, subst}
use Rattle.data_component.specs.Store.{Store}
use Rattle.embedding.specs.declared.frame.Frame.{Frame}
use Rattle.embedding.specs.declared.engine.Body.{Body}
use Rattle.embedding.specs.declared.engine.Body.TheVariants.{Empty, Tc, Dc, Code}
use Rattle.embedding.specs.declared.filed_part.FiledPart.{FiledPart}
use Rattle.embedding.specs.Keeping.{IsKept}
use Rattle.embedding.specs.declared.code_part.CodePart.{CodePart}
use Rattle.embedding.specs.Programs.{IsRun}
use Rattle.embedding.specs.Filing.{IsFiled}
use Rattle.embedding.specs.Calling.{Serves, Keeps, Runs}

abbrev part_or : FiledPart → Body → FiledPart
part_or other Empty = other
part_or other (Tc part) = part
part_or other (Dc dc) = other
part_or other (Code part) = other

abbrev store_or : Store → Body → Store
store_or other Empty = other
store_or other (Tc part) = other
store_or other (Dc store) = store
store_or other (Code part) = other

pub served_on : (was part now : FiledPart) (f f' : Frame) (code : ℕ) → Tc was ≡ Tc part → IsFiled was f code now f' → Serves part f code (Tc now) f'
served_on was part now f f' code same served =
    record { part' = now; is = refl; served = subst (λ (p : FiledPart). IsFiled p f code now f') (ap (part_or was) same) served }

pub kept_on : (was store now : Store) (f f' : Frame) (code : ℕ) → Dc was ≡ Dc store → IsKept was f code now f' → Keeps store f code (Dc now) f'
kept_on was store now f f' code same kept =
    record { store' = now; is = refl; kept = subst (λ (s : Store). IsKept s f code now f') (ap (store_or was) same) kept }

abbrev code_or : CodePart → Body → CodePart
code_or other Empty = other
code_or other (Tc part) = other
code_or other (Dc store) = other
code_or other (Code part) = part

pub run_on : (was part now : CodePart) (f f' : Frame) (code : ℕ) → Code was ≡ Code part → IsRun was f code now f' → Runs part f code (Code now) f'
run_on was part now f f' code same run =
    record { part' = now; is = refl; run = subst (λ (c : CodePart). IsRun c f code now f') (ap (code_or was) same) run }
