use Rattle.std.proofs.Common.{◌≡◌, ap, inr, refl, rules, subst, sym}
use Rattle.case_words.specs.Jobs.{PlainCert}
use Rattle.case_words.specs.Views.{asked_by}
use Rattle.cert_format.specs.Writing.{IsSized, head_of}
use Rattle.cert_check.specs.Converse.{AreNamed}
use Rattle.cert_check.proofs.Exports.{answers_are_accepted}
use Rattle.flash_run.specs.Wanting.{flash_for}
use Rattle.flash_run.proofs.LiveNames.{are_named}
use Rattle.flash_run.proofs.Wanting.{is_flash}
use Rattle.flash_run.specs.declared.wanted.Printed.{Printed}
use Rattle.flash_run.proofs.flashing.flashed.Goals as goal

pub returns-in-Err : goal.returns-in-Err
returns-in-Err c bytes case_is = record {
  certified = tt;
  returned = tt;
  cause = inr (
    is_flash c.args.printed (asked_by c.args.job.now),
    record { picked = c.args.picked; case_is = case_is; range = c.in-Err.fault; is = refl; refused = c.in-Err.ensures.err },
  );
}

pub returns-in-Certificate : goal.returns-in-Certificate
returns-in-Certificate c bytes case_is =
    let job = c.args.job.now in
    let picked = c.args.picked in
    let p = c.in-Ok.params in
    let a = c.in-Ok-flash_tp.answer in
    let names = are_named case_is.held (asked_by job) picked case_is.picks job.named job.differ in
    let own : AreNamed p.case = subst AreNamed (sym c.in-Ok.ensures.ok) names in
    let sized : IsSized (head_of p a) = subst IsSized c.head_of.ensures c.head_is_sized.ensures in
    let asks : flash_for c.args.printed (asked_by job) ≡ PlainCert (asked_by job) =
    ap (λ (printed : Printed). flash_for printed (asked_by job)) c.in-Certificate.is in
    record {
      certified = (
        asked_by job,
        picked,
        asks,
        record {
          case_is = case_is;
          case = search rules;
          tol_is = refl;
          within = search rules;
          certified = search rules;
          near = search rules;
        },
      );
      returned = answers_are_accepted p job.tol job.budget a job.budget_high c.in-Ok-flash_tp.ensures.lawful own sized;
      cause = (asks, search rules);
    }
