use Rattle.std.proofs.Common.{◌≡◌, ◌∙◌, ℕ, List, ap, map, true, length}
use Rattle.std.specs.Prelude.{IsTrue, IfSome}
use Rattle.std.specs.Option.{option_map}
use Rattle.std.specs.List.{list_all, sum}
use Rattle.std.proofs.lemmas.List.{length-map}
use Rattle.arrayvec.specs.declared.array_vec.ArrayVec.{ArrayVec}
use Rattle.case_types.specs.declared.cases.Name.{Name}
use Rattle.case_words.specs.Names.{text_of, is_name_length, are_different}
use Rattle.case_words.specs.declared.boundaries.By.TheVariants.{Pressure, Temperature}
use Rattle.case_words.specs.Items.{is_within}
use Rattle.case_words.specs.Quantities.{least, greatest}
use Rattle.case_words.specs.Views.{gathered_of}
use Rattle.case_words.proofs.Asking.{asked-without_z, asked-without_names, asked-without_tol, asked-without_budget, asked-whole, some-kept, is_within-low, is_within-high}
use Rattle.case_words.proofs.gathering.Given.flash_at.Goals as goal

pub returns-in_default-clause-value : goal.returns-in_default-clause-value
returns-in_default-clause-value c =
    asked-without_z (gathered_of c.args.self) c.args.t c.args.p (ap (option_map (λ (z : ArrayVec ℕ 4 (Unit {0})). z.items)) c.in_default.is)

pub returns-in_default-names-clause-value : goal.returns-in_default-names-clause-value
returns-in_default-names-clause-value c =
    asked-without_names (gathered_of c.args.self) c.args.t c.args.p c.in-Some.z.items (ap (option_map (λ (z : ArrayVec ℕ 4 (Unit {0})). z.items)) c.in-Some.is)
    (ap (option_map (λ (names : ArrayVec Name 4 (Unit {0})). map text_of names.items)) c.in_default-names.is)

pub returns-in_default-tol-clause-value : goal.returns-in_default-tol-clause-value
returns-in_default-tol-clause-value c =
    asked-without_tol (gathered_of c.args.self) c.args.t c.args.p c.in-Some.z.items (map text_of c.in-Some-names.names.items)
    (ap (option_map (λ (z : ArrayVec ℕ 4 (Unit {0})). z.items)) c.in-Some.is)
    (ap (option_map (λ (names : ArrayVec Name 4 (Unit {0})). map text_of names.items)) c.in-Some-names.is) c.in_default-tol.is

pub returns-in_default-budget-clause-value : goal.returns-in_default-budget-clause-value
returns-in_default-budget-clause-value c =
    asked-without_budget (gathered_of c.args.self) c.args.t c.args.p c.in-Some.z.items (map text_of c.in-Some-names.names.items) c.in-Some-tol.tol
    (ap (option_map (λ (z : ArrayVec ℕ 4 (Unit {0})). z.items)) c.in-Some.is)
    (ap (option_map (λ (names : ArrayVec Name 4 (Unit {0})). map text_of names.items)) c.in-Some-names.is) c.in-Some-tol.is c.in_default-budget.is

pub invariant_of-result : goal.invariant_of-result
invariant_of-result c =
    let in_tol : is_within 128 1048576 c.in-Some-tol.tol ≡ true = some-kept (gathered_of c.args.self).tol c.in-Some-tol.tol (λ (n : ℕ). IsTrue (is_within 128 1048576 n)) c.in-Some-tol.is c.requires.kept.tol in
    let in_budget : is_within 1 10000000 c.in-Some-budget.budget ≡ true = some-kept (gathered_of c.args.self).budget c.in-Some-budget.budget (λ (n : ℕ). IsTrue (is_within 1 10000000 n)) c.in-Some-budget.is c.requires.kept.budget in
    let in_total : is_within 1 1048576 (sum c.in-Some.z.items) ≡ true =
    some-kept (gathered_of c.args.self).z c.in-Some.z.items (λ (z : List ℕ). IsTrue (is_within 1 1048576 (sum z))) (ap (option_map (λ (z : ArrayVec ℕ 4 (Unit {0})). z.items)) c.in-Some.is) c.requires.kept.total in
    record {
      t_low = is_within-low (least Temperature) (greatest Temperature) c.args.t c.requires.t;
      t_high = is_within-high (least Temperature) (greatest Temperature) c.args.t c.requires.t;
      p_low = is_within-low (least Pressure) (greatest Pressure) c.args.p c.requires.p;
      p_high = is_within-high (least Pressure) (greatest Pressure) c.args.p c.requires.p;
      total_low = is_within-low 1 1048576 (sum c.in-Some.z.items) in_total;
      total_high = is_within-high 1 1048576 (sum c.in-Some.z.items) in_total;
      as_many =
          some-kept (gathered_of c.args.self).names (map text_of c.in-Some-names.names.items) (λ (names : List (List ℕ)). length c.in-Some.z.items ≡ length names) (ap (option_map (λ (names : ArrayVec Name 4 (Unit {0})). map text_of names.items)) c.in-Some-names.is)
          (some-kept (gathered_of c.args.self).z c.in-Some.z.items (λ (z : List ℕ). IfSome (gathered_of c.args.self).names (λ (names : List (List ℕ)). length z ≡ length names)) (ap (option_map (λ (z : ArrayVec ℕ 4 (Unit {0})). z.items)) c.in-Some.is) c.requires.kept.as_many)
          ∙ length-map c.in-Some-names.names.items text_of;
      differ = some-kept (gathered_of c.args.self).names (map text_of c.in-Some-names.names.items) (λ (names : List (List ℕ)). IsTrue (are_different names)) (ap (option_map (λ (names : ArrayVec Name 4 (Unit {0})). map text_of names.items)) c.in-Some-names.is) c.requires.kept.differ;
      named = some-kept (gathered_of c.args.self).names (map text_of c.in-Some-names.names.items) (λ (names : List (List ℕ)). IsTrue (list_all is_name_length names)) (ap (option_map (λ (names : ArrayVec Name 4 (Unit {0})). map text_of names.items)) c.in-Some-names.is) c.requires.kept.named;
      tol_low = is_within-low 128 1048576 c.in-Some-tol.tol in_tol;
      tol_high = is_within-high 128 1048576 c.in-Some-tol.tol in_tol;
      budget_low = is_within-low 1 10000000 c.in-Some-budget.budget in_budget;
      budget_high = is_within-high 1 10000000 c.in-Some-budget.budget in_budget;
    }

pub returns-clause-value : goal.returns-clause-value
returns-clause-value c =
    asked-whole (gathered_of c.args.self) c.args.t c.args.p c.in-Some.z.items (map text_of c.in-Some-names.names.items) c.in-Some-tol.tol c.in-Some-budget.budget c.unwrap_or.result
    (ap (option_map (λ (z : ArrayVec ℕ 4 (Unit {0})). z.items)) c.in-Some.is) (ap (option_map (λ (names : ArrayVec Name 4 (Unit {0})). map text_of names.items)) c.in-Some-names.is) c.in-Some-tol.is c.in-Some-budget.is c.unwrap_or.ensures
