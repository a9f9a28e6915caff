use Rattle.std.proofs.Common.{rules, arith, ◌≡◌, ◌∷◌, [], ◌++◌, List, ℕ, length, map, refl, ◌∙◌, subst}
use Rattle.frame_file.specs.Device.{LeavesOnly}
use Rattle.frame_file.specs.Reading.{IsSettled, IsBeforeOrAfter}
use Rattle.frame_file.proofs.Moments.{weaker, joined}
use Rattle.log_file.specs.Bytes.{part_bytes, parts_of, batch_bytes, based_header_bytes}
use Rattle.log_file.specs.Reading.{IsFront}
use Rattle.log_file.proofs.WritingLemmas.{at_rest}
use Rattle.log_file.proofs.file.LogFile.begin_anew.Goals as goal

pub returns-in_err-payload-clause-any_moment : goal.returns-in_err-payload-clause-any_moment
returns-in_err-payload-clause-any_moment g c settled =
    let d = g.D.Device in
    let h = c.args.header.now in
    let base = c.args.base.now in
    at_rest d.seen d.may_leave d.moment d.left_since c.args.self.now.frames [] (based_header_bytes h (length base) ∷ map part_bytes (parts_of base))
    (batch_bytes (record { notes = []; rows = c.args.checkpoint.now })) [] (g.met.D.Device.only_now c.args.self.now.frames.device) settled

pub returns-in_err-append-clause-any_moment : goal.returns-in_err-append-clause-any_moment
returns-in_err-append-clause-any_moment g c settled =
    let d = g.D.Device in
    let head = based_header_bytes c.args.header.now (length c.args.base.now) in
    let parts = map part_bytes (parts_of c.args.base.now) in
    let row = batch_bytes (record { notes = []; rows = c.args.checkpoint.now }) in
    let old = c.args.self.now.frames.device in
    let is : c.deref.result.now ≡ based_header_bytes c.args.header.now (length c.args.base.now) = c.deref.ensures.value ∙ c.in_ok-payload.ensures in
    let P = IsFront (head ∷ (parts ++ row ∷ [])) in
    let time = subst (λ (p : List ℕ). LeavesOnly d.moment d.left_since old c.append.new.self.device
    (IsBeforeOrAfter [] p)) is (c.append.ensures.any_moment [] settled) in
    weaker d.moment d.left_since old c.append.new.self.device (IsBeforeOrAfter [] head) P time
    (λ f left. record { before = []; payload = head; after = parts ++ row ∷ []; is = refl; left = left })

pub returns-in_err-append_base-clause-any_moment : goal.returns-in_err-append_base-clause-any_moment
returns-in_err-append_base-clause-any_moment g c settled =
    let d = g.D.Device in
    let head = based_header_bytes c.args.header.now (length c.args.base.now) in
    let parts = map part_bytes (parts_of c.args.base.now) in
    let row = batch_bytes (record { notes = []; rows = c.args.checkpoint.now }) in
    let old = c.args.self.now.frames.device in
    let mid = c.append.new.self.device in
    let is : c.deref.result.now ≡ based_header_bytes c.args.header.now (length c.args.base.now) = c.deref.ensures.value ∙ c.in_ok-payload.ensures in
    let P = IsFront (head ∷ (parts ++ row ∷ [])) in
    let time = subst (λ (p : List ℕ). LeavesOnly d.moment d.left_since old mid (IsBeforeOrAfter [] p)) is (c.append.ensures.any_moment [] settled) in
    let first = weaker d.moment d.left_since old mid (IsBeforeOrAfter [] head) P time
    (λ f left. record { before = []; payload = head; after = parts ++ row ∷ []; is = refl; left = left }) in
    let one = subst (λ (p : List ℕ). IsSettled d.seen d.may_leave c.append.new.self (p ∷ [])) is (c.in_ok-append.ensures.acknowledged [] settled) in
    joined d.moment d.left_since old mid c.append_base.new.self.frames.device P first (c.append_base.ensures.any_moment (head ∷ []) [] row one)

pub returns-clause-any_moment : goal.returns-clause-any_moment
returns-clause-any_moment g c settled =
    let d = g.D.Device in
    let head = based_header_bytes c.args.header.now (length c.args.base.now) in
    let parts = map part_bytes (parts_of c.args.base.now) in
    let row = batch_bytes (record { notes = []; rows = c.args.checkpoint.now }) in
    let old = c.args.self.now.frames.device in
    let mid = c.append.new.self.device in
    let near = c.append_base.new.self.frames.device in
    let new = c.append-2.new.self.frames.device in
    let is : c.deref.result.now ≡ based_header_bytes c.args.header.now (length c.args.base.now) = c.deref.ensures.value ∙ c.in_ok-payload.ensures in
    let P = IsFront (head ∷ (parts ++ row ∷ [])) in
    let time = subst (λ (p : List ℕ). LeavesOnly d.moment d.left_since old mid (IsBeforeOrAfter [] p)) is (c.append.ensures.any_moment [] settled) in
    let first = weaker d.moment d.left_since old mid (IsBeforeOrAfter [] head) P time
    (λ f left. record { before = []; payload = head; after = parts ++ row ∷ []; is = refl; left = left }) in
    let one = subst (λ (p : List ℕ). IsSettled d.seen d.may_leave c.append.new.self (p ∷ [])) is (c.in_ok-append.ensures.acknowledged [] settled) in
    let second = joined d.moment d.left_since old mid near P first (c.append_base.ensures.any_moment (head ∷ []) [] row one) in
    let all = c.in_ok-append_base.ensures.acknowledged (head ∷ []) one in
    let third = weaker d.moment d.left_since near new (IsBeforeOrAfter (head ∷ parts) row) P (c.append-2.ensures.any_moment (head ∷ parts) all)
    (λ f left. record { before = head ∷ parts; payload = row; after = []; is = refl; left = left }) in
    joined d.moment d.left_since old near new P second third

pub returns-clause-acknowledged : goal.returns-clause-acknowledged
returns-clause-acknowledged g c settled =
    let d = g.D.Device in
    let head = based_header_bytes c.args.header.now (length c.args.base.now) in
    let parts = map part_bytes (parts_of c.args.base.now) in
    let is : c.deref.result.now ≡ based_header_bytes c.args.header.now (length c.args.base.now) = c.deref.ensures.value ∙ c.in_ok-payload.ensures in
    let one = subst (λ (p : List ℕ). IsSettled d.seen d.may_leave c.append.new.self (p ∷ [])) is (c.in_ok-append.ensures.acknowledged [] settled) in
    c.append-2.ensures.acknowledged (head ∷ parts) (c.in_ok-append_base.ensures.acknowledged (head ∷ []) one)

pub returns-in_err-append_base-clause-failed : goal.returns-in_err-append_base-clause-failed
returns-in_err-append_base-clause-failed g c is =
    let later = c.append.ensures.later in
    let less = c.append_base.ensures.failed (search rules) in
    omega (arith, later, less)

pub returns-clause-failed : goal.returns-clause-failed
returns-clause-failed g c is =
    let later = c.append.ensures.later in
    let more = c.append_base.ensures.later in
    let less = c.append-2.ensures.failed is in
    omega (arith, later, more, less)
