-- What a good certificate certifies.
use Rattle.std.proofs.Common.{◌≡◌, ℕ, ◌-ℤ◌, refl, Bool, true, false, not, Option, Some, None, ℤ, arith}
use Rattle.std.specs.Prelude.{is_some}
use Rattle.std.specs.Option.{option_map}
use Rattle.std.specs.Ordering.{int_eq}
use Rattle.case_types.specs.declared.cases.ParamFault.{ParamFault}
use Rattle.case_types.specs.Arithmetic.Bounds.{energy_up, plane_at}
use Rattle.case_types.specs.Arithmetic.Faults.{fault_of, or_else}
use Rattle.case_types.specs.Arithmetic.Numbers.{numbers_of, enclosures_of}
use Rattle.case_types.specs.Arithmetic.Splits.{split_up}
use Rattle.case_types.specs.Grid.Cells.{root_region}
use Rattle.log_laws.proofs.Exports.{and_true}
use Rattle.cert_letters.proofs.Exports.{tested_over}
use Rattle.pr_surface.proofs.Exports.{certificates_certify}
use Rattle.cert_format.specs.declared.heads.CertParams.{CertParams}
use Rattle.cert_format.specs.declared.heads.Head.{Head}
use Rattle.cert_check.specs.declared.broken.Broken.{Broken}
use Rattle.cert_check.specs.declared.broken.Broken.TheVariants.{Params, Balance, Energy, Gap}
use Rattle.cert_check.specs.Tests.{first_broken, first_unbalanced, are_good_params, states_pairs, is_energy, is_gap, unless, surface_in}
use Rattle.cert_check.specs.Certificates.{GoodCertifies}
use Rattle.cert_check.proofs.Balances.{divides, or_else_none}

-- ---- what holds where no test breaks
record Holds (h : Head) : Type 0 where
  params : are_good_params h.params ≡ true
  balance : first_unbalanced h ≡ None
  energy : is_energy h ≡ true
  gap : is_gap h ≡ true

holds_so : (b : Bool) (x : Broken) → unless b x ≡ None → b ≡ true
holds_so true x e = refl
holds_so false x e = absurd cc

nowhere : (o : Option ℕ) → option_map Balance o ≡ None → o ≡ None
nowhere None e = refl
nowhere (Some i) e = absurd cc

holds : (h : Head) → first_broken h ≡ None → Holds h
unfolding first_broken
holds h e =
    let a = or_else_none (unless (are_good_params h.params) Params)
    (or_else (option_map Balance (first_unbalanced h)) (or_else (unless (is_energy h) Energy) (unless (is_gap h) Gap))) e in
    let b = or_else_none (option_map Balance (first_unbalanced h)) (or_else (unless (is_energy h) Energy) (unless (is_gap h) Gap)) a.1 in
    let c = or_else_none (unless (is_energy h) Energy) (unless (is_gap h) Gap) b.1 in
    record {
      params = holds_so (are_good_params h.params) Params a.0;
      balance = nowhere (first_unbalanced h) b.0;
      energy = holds_so (is_energy h) Energy c.0;
      gap = holds_so (is_gap h) Gap c.1;
    }

-- ---- the parts of a certificate
no_fault : (o : Option ParamFault) → not (is_some o) ≡ true → o ≡ None
no_fault None e = refl
no_fault (Some f) e = absurd cc

accepted : (p : CertParams) → are_good_params p ≡ true → fault_of p.case ≡ None
unfolding are_good_params
accepted p e = no_fault (fault_of p.case) (and_true (not (is_some (fault_of p.case))) (states_pairs p (enclosures_of p.case)) e).0

same_int : (a b : ℤ) → int_eq a b ≡ true → a ≡ b
same_int a b e = grind arith

pub good_certifies : GoodCertifies
good_certifies h tree good =
    let k = holds h good.unbroken in
    certificates_certify h.params.case h.split h.u h.plane.lam h.low h.gap (record {
      accepted = accepted h.params k.params;
      divides = divides h good.head k.balance;
      upper = same_int h.u (split_up h.params.case.n (energy_up (numbers_of h.params.case)) h.split) k.energy;
      over = record { tree = tree; over = tested_over (surface_in h) h.plane.lam h.low h.params.case.n tree (root_region h.params.case.n) good.tree_good };
      difference = same_int h.gap ((h.u -ℤ plane_at h.params.case.n h.plane.lam h.params.case.z h.params.case.total) -ℤ h.low) k.gap;
    })
