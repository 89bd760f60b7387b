-- The job of a command wants each of its keys, and names the first that didn't stand.
use Rattle.std.proofs.Common.{ℕ, List, refl}
use Rattle.std.specs.Prelude.{Option, Some, None, Result, Ok, Err}
use Rattle.case_types.specs.declared.cases.Edition.{Edition}
use Rattle.case_words.specs.declared.boundaries.By.TheVariants.{Pressure, Temperature}
use Rattle.case_words.specs.declared.boundaries.Side.{Side}
use Rattle.case_words.specs.declared.commands.Command.{Command}
use Rattle.case_words.specs.declared.commands.Command.TheVariants.{Tp, Cert, Check, Edge}
use Rattle.case_words.specs.declared.faults.WordFault.{WordFault}
use Rattle.case_words.specs.declared.keys.Key.{Key}
use Rattle.case_words.specs.Answers.{◌>>=◌}
use Rattle.case_words.specs.Jobs.{Gathered, PlainTp, PlainCert, PlainEdge, asked_of, asked_at, edge_of, job_from}
use Rattle.case_words.specs.Missing.{first_missing, IsNamed}

named-then : {A B : Type 0} (key : Option Key) (r : Result A WordFault) (f : A → B) → IsNamed key r → IsNamed key (r >>= (λ a. Ok (f a)))
named-then (Some key) r f named = rw named refl
named-then None (Ok a) f named = tt
named-then None (Err fault) f named = named

abbrev gathered : Option ℕ → Option ℕ → Option ℕ → Option ℕ → Option ℕ → Option (List ℕ) → Option (List (List ℕ)) → Option ℕ → Option ℕ → Option Edition → Gathered
gathered t p lo hi width z names tol budget edition =
    record { t = t; p = p; lo = lo; hi = hi; width = width; z = z; names = names; tol = tol; budget = budget; edition = edition }

flash : (t p lo hi width : Option ℕ) (z : Option (List ℕ)) (names : Option (List (List ℕ))) (tol budget : Option ℕ) (edition : Option Edition)
    → IsNamed (first_missing Tp (gathered t p lo hi width z names tol budget edition)) (asked_of (gathered t p lo hi width z names tol budget edition))
unfolding asked_of asked_at
flash None p lo hi width z names tol budget edition = refl
flash (Some t) None lo hi width z names tol budget edition = refl
flash (Some t) (Some p) lo hi width None names tol budget edition = refl
flash (Some t) (Some p) lo hi width (Some z) None tol budget edition = refl
flash (Some t) (Some p) lo hi width (Some z) (Some names) None budget edition = refl
flash (Some t) (Some p) lo hi width (Some z) (Some names) (Some tol) None edition = refl
flash (Some t) (Some p) lo hi width (Some z) (Some names) (Some tol) (Some budget) edition = tt

over_pressure : (side : Side) (t p lo hi width : Option ℕ) (z : Option (List ℕ)) (names : Option (List (List ℕ))) (tol budget : Option ℕ) (edition : Option Edition)
    → IsNamed (first_missing (Edge Pressure side) (gathered t p lo hi width z names tol budget edition))
    (edge_of Pressure side (gathered t p lo hi width z names tol budget edition))
unfolding edge_of asked_at
over_pressure side None p lo hi width z names tol budget edition = refl
over_pressure side (Some t) p None hi width z names tol budget edition = refl
over_pressure side (Some t) p (Some lo) None width z names tol budget edition = refl
over_pressure side (Some t) p (Some lo) (Some hi) None z names tol budget edition = refl
over_pressure side (Some t) p (Some lo) (Some hi) (Some width) None names tol budget edition = refl
over_pressure side (Some t) p (Some lo) (Some hi) (Some width) (Some z) None tol budget edition = refl
over_pressure side (Some t) p (Some lo) (Some hi) (Some width) (Some z) (Some names) None budget edition = refl
over_pressure side (Some t) p (Some lo) (Some hi) (Some width) (Some z) (Some names) (Some tol) None edition = refl
over_pressure side (Some t) p (Some lo) (Some hi) (Some width) (Some z) (Some names) (Some tol) (Some budget) edition = tt

over_temperature : (side : Side) (t p lo hi width : Option ℕ) (z : Option (List ℕ)) (names : Option (List (List ℕ))) (tol budget : Option ℕ) (edition : Option Edition)
    → IsNamed (first_missing (Edge Temperature side) (gathered t p lo hi width z names tol budget edition))
    (edge_of Temperature side (gathered t p lo hi width z names tol budget edition))
unfolding edge_of asked_at
over_temperature side t None lo hi width z names tol budget edition = refl
over_temperature side t (Some p) None hi width z names tol budget edition = refl
over_temperature side t (Some p) (Some lo) None width z names tol budget edition = refl
over_temperature side t (Some p) (Some lo) (Some hi) None z names tol budget edition = refl
over_temperature side t (Some p) (Some lo) (Some hi) (Some width) None names tol budget edition = refl
over_temperature side t (Some p) (Some lo) (Some hi) (Some width) (Some z) None tol budget edition = refl
over_temperature side t (Some p) (Some lo) (Some hi) (Some width) (Some z) (Some names) None budget edition = refl
over_temperature side t (Some p) (Some lo) (Some hi) (Some width) (Some z) (Some names) (Some tol) None edition = refl
over_temperature side t (Some p) (Some lo) (Some hi) (Some width) (Some z) (Some names) (Some tol) (Some budget) edition = tt

-- the first key of the command that didn't stand is named, and where each stands there is a job
pub first_key : (command : Command) (g : Gathered) → IsNamed (first_missing command g) (job_from command g)
unfolding job_from
first_key Tp g = named-then (first_missing Tp g) (asked_of g) PlainTp (flash g.t g.p g.lo g.hi g.width g.z g.names g.tol g.budget g.edition)
first_key Cert g = named-then (first_missing Tp g) (asked_of g) PlainCert (flash g.t g.p g.lo g.hi g.width g.z g.names g.tol g.budget g.edition)
first_key Check g = tt
first_key (Edge Pressure side) g =
    named-then (first_missing (Edge Pressure side) g) (edge_of Pressure side g) PlainEdge (over_pressure side g.t g.p g.lo g.hi g.width g.z g.names g.tol g.budget g.edition)
first_key (Edge Temperature side) g =
    named-then (first_missing (Edge Temperature side) g) (edge_of Temperature side g) PlainEdge (over_temperature side g.t g.p g.lo g.hi g.width g.z g.names g.tol g.budget g.edition)
