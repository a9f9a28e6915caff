-- The loop over sections that reads their procedures.
use Rattle.std.proofs.Common.{◌≡◌, ◌∙◌, ℕ, ◌+◌, ◌<◌, List, ◌++◌, length, map, drop, get_or, ap, arith}
use Rattle.std.specs.Prelude.{Option, Result}
use Rattle.std.proofs.lemmas.List.{get_or-map, length-map}
use Rattle.object_file.specs.Gathering.{viewed, there, fault_there, kept, faults}
use Rattle.object_file.specs.Object.{Named, Declared, named, declared_of, procedure_said}
use Rattle.object_file.specs.declared.fault.ObjectFault.{ObjectFault}
use Rattle.object_file.specs.declared.procedures.Procedure.{Procedure}
use Rattle.object_file.specs.declared.procedures.Section.{Section}
use Rattle.object_file.proofs.Gathering.{kept_more, faults_more}

abbrev said : List Named → ℕ → Named → Result (Option Declared) ObjectFault
said sections number s = procedure_said sections s

inside : (all : List Section) (k : ℕ) → k < length all → k < length (map named all)
inside all k below = omega (arith, length-map all named, below)

here_at : (all : List Section) (k : ℕ) (d : Section) (r : Result (Option Procedure) ObjectFault) → k < length all
    → procedure_said (map named all) (named (get_or all k d)) ≡ viewed declared_of r
    → procedure_said (map named all) (get_or (map named all) k (named d)) ≡ viewed declared_of r
here_at all k d r below here = ap (procedure_said (map named all)) (get_or-map named all k d (named d) below) ∙ here

pub procedure_more : (all : List Section) (k : ℕ) (d : Section) (procedures new : List Procedure) (r : Result (Option Procedure) ObjectFault)
    (total : List Declared) → k < length all
    → map declared_of procedures ++ kept (said (map named all)) k (drop k (map named all)) ≡ total
    → procedure_said (map named all) (named (get_or all k d)) ≡ viewed declared_of r → new ≡ procedures ++ there r
    → map declared_of new ++ kept (said (map named all)) (k + 1) (drop (k + 1) (map named all)) ≡ total
procedure_more all k d procedures new r total below so_far here grown =
    kept_more declared_of (said (map named all)) k (map named all) (named d) procedures new r total
    (inside all k below) so_far (here_at all k d r below here) grown

pub procedure_fault : (all : List Section) (k : ℕ) (d : Section) (before new : List ObjectFault) (r : Result (Option Procedure) ObjectFault)
    (total : List ObjectFault) → k < length all
    → before ++ faults (said (map named all)) k (drop k (map named all)) ≡ total
    → procedure_said (map named all) (named (get_or all k d)) ≡ viewed declared_of r → new ≡ before ++ fault_there r
    → new ++ faults (said (map named all)) (k + 1) (drop (k + 1) (map named all)) ≡ total
procedure_fault all k d before new r total below so_far here grown =
    faults_more declared_of (said (map named all)) k (map named all) (named d) before new r total
    (inside all k below) so_far (here_at all k d r below here) grown
