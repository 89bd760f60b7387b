-- What the work of a job came to.
use Rattle.std.proofs.Common.{◌≡◌, inl, inr, ℕ, List, Bool, true, ℤ, refl, sym, subst, ◌+◌}
use Rattle.std.specs.Prelude.{Ok, Some}
use Rattle.std.specs.declared.option.Option.{Option}
use Rattle.case_words.specs.Jobs.{Asked, PlainJob, PlainCheck}
use Rattle.cert_lines.specs.declared.faults.CertFault.TheVariants as fault
use Rattle.cert_format.specs.declared.heads.Head.{Head}
use Rattle.cert_format.specs.declared.verdicts.Verdict.{Verdict}
use Rattle.cert_format.specs.declared.verdicts.Verdict.TheVariants as verdict
use Rattle.cert_check.specs.Certificates.{IsGoodText}
use Rattle.cert_check.specs.Streams.{AnswersStream, FailsToRead, IsStreamVerdict, Judges as JudgesText, past_limit}
use Rattle.cert_check.proofs.Exports.{accepted_is_good, good_certifies}
use Rattle.report_text.specs.declared.ends.End.{End}
use Rattle.report_text.specs.declared.ends.End.TheVariants.{Words, Read, TooLong, Table, Case, Flash, Cert, Checked, Edge, Memory}
use Rattle.io_edge.specs.Reading.{StopsReading, TakesAtMost, TakesExactly}
use Rattle.io_edge.specs.declared.reading.ReadStop.TheVariants as stop
use Rattle.flash_run.specs.Headline.{table_limit, IsAll, IsAccepted, IsOfAll, Accepts, Certifies}
use Rattle.flash_run.specs.Ends.{IsJudged, IsWorked, Judges, ReadsTable, Works, base_of, end_of}
use Rattle.flash_run.proofs.Takes.{table_at_most, table_limited}

-- ---- of a table
-- how a job reads a table
abbrev reads_table : (job : PlainJob) (asked : Asked) → base_of job ≡ Some asked → ReadsTable (Ok job)
reads_table job asked base = record { plain = job; asked = asked; asks = refl; base = base }

of_all : (job : PlainJob) (bytes : List ℕ) (left left' : Option (List ℕ)) (end : End) → IsAll left left' bytes → Certifies job bytes end → IsOfAll (Ok job) left left' end
of_all job bytes left left' end all certified = record { plain = job; asks = refl; bytes = bytes; all = all; certified = certified }

judged : (job : PlainJob) (asked : Asked) (bytes : List ℕ) (left left' : Option (List ℕ)) (end : End) → base_of job ≡ Some asked → IsAll left left' bytes
    → Judges job asked bytes end → IsJudged (Ok job) left left' end
judged job asked bytes left left' end base all j = record { reads = reads_table job asked base; bytes = bytes; all = all; judged = j }

pub judged_works : (job : PlainJob) (asked : Asked) (bytes : List ℕ) (left left' : Option (List ℕ)) (faults : ℕ) (faults' : ℕ) (failed' : Bool) (end : End)
    → base_of job ≡ Some asked → IsAll left left' bytes → faults' ≡ faults → IsWorked job asked bytes end
    → Works (Ok job) left left' faults faults' failed' end
judged_works job asked bytes left left' faults faults' failed' (Table fault) base all same w = record {
  headline = tt;
  accepted = tt;
  returned = tt;
  takes = (bytes, all);
  reads = same;
  last_take = λ e. absurd cc;
  last_fault = λ e. absurd (e same);
  cause = judged job asked bytes left left' (Table fault) base all w.cause;
  memory = λ e. absurd cc;
}
judged_works job asked bytes left left' faults faults' failed' (Case fault) base all same w = record {
  headline = tt;
  accepted = tt;
  returned = tt;
  takes = (bytes, all);
  reads = same;
  last_take = λ e. absurd cc;
  last_fault = λ e. absurd (e same);
  cause = judged job asked bytes left left' (Case fault) base all w.cause;
  memory = λ e. absurd cc;
}
judged_works job asked bytes left left' faults faults' failed' (Flash params picked tol answer) base all same w = record {
  headline = of_all job bytes left left' (Flash params picked tol answer) all w.certified;
  accepted = tt;
  returned = tt;
  takes = (bytes, all);
  reads = same;
  last_take = λ e. absurd cc;
  last_fault = λ e. absurd (e same);
  cause = judged job asked bytes left left' (Flash params picked tol answer) base all w.cause;
  memory = λ e. absurd cc;
}
judged_works job asked bytes left left' faults faults' failed' (Cert params answer) base all same w = record {
  headline = of_all job bytes left left' (Cert params answer) all w.certified;
  accepted = tt;
  returned = w.returned;
  takes = (bytes, all);
  reads = same;
  last_take = λ e. absurd cc;
  last_fault = λ e. absurd (e same);
  cause = judged job asked bytes left left' (Cert params answer) base all w.cause;
  memory = λ e. absurd cc;
}
judged_works job asked bytes left left' faults faults' failed' (Edge by answer) base all same w = record {
  headline = of_all job bytes left left' (Edge by answer) all w.certified;
  accepted = tt;
  returned = tt;
  takes = (bytes, all);
  reads = same;
  last_take = λ e. absurd cc;
  last_fault = λ e. absurd (e same);
  cause = judged job asked bytes left left' (Edge by answer) base all w.cause;
  memory = λ e. absurd cc;
}
judged_works job asked bytes left left' faults faults' failed' Memory base all same w = record {
  headline = tt;
  accepted = tt;
  returned = tt;
  takes = table_at_most job asked left left' bytes base all;
  reads = inl same;
  last_take = λ e. absurd cc;
  last_fault = λ e. absurd (e same);
  cause = tt;
  memory = λ e. reads_table job asked base;
}
judged_works job asked bytes left left' faults faults' failed' (Words fault) base all same w = absurd w.cause
judged_works job asked bytes left left' faults faults' failed' Read base all same w = absurd w.cause
judged_works job asked bytes left left' faults faults' failed' TooLong base all same w = absurd w.cause
judged_works job asked bytes left left' faults faults' failed' (Checked v) base all same w = absurd w.cause

-- the table couldn't be read, has too many bytes, or found no memory
pub failed_works : (job : PlainJob) (asked : Asked) (left left' : Option (List ℕ)) (faults faults' : ℕ) (failed' : Bool) → base_of job ≡ Some asked
    → StopsReading stop.Failed table_limit left left' faults faults' → failed' ≡ true → Works (Ok job) left left' faults faults' failed' Read
failed_works job asked left left' faults faults' failed' base (most, fault) failed = record {
  headline = tt;
  accepted = tt;
  returned = tt;
  takes = subst (λ (n : ℕ). TakesAtMost n left left') (sym (table_limited job asked base)) most;
  reads = fault;
  last_take = λ e. failed;
  last_fault = λ e. failed;
  cause = inl (reads_table job asked base);
  memory = λ e. absurd cc;
}

pub long_table_works : (job : PlainJob) (asked : Asked) (left left' : Option (List ℕ)) (faults faults' : ℕ) (failed' : Bool) → base_of job ≡ Some asked
    → StopsReading stop.TooLong table_limit left left' faults faults' → Works (Ok job) left left' faults faults' failed' TooLong
long_table_works job asked left left' faults faults' failed' base (count, same) = record {
  headline = tt;
  accepted = tt;
  returned = tt;
  takes = subst (λ (n : ℕ). TakesExactly (n + 1) left left') (sym (table_limited job asked base)) count;
  reads = same;
  last_take = λ e. absurd cc;
  last_fault = λ e. absurd (e same);
  cause = inl (reads_table job asked base);
  memory = λ e. absurd cc;
}

pub unread_works : (job : PlainJob) (asked : Asked) (left left' : Option (List ℕ)) (faults faults' : ℕ) (failed' : Bool) → base_of job ≡ Some asked
    → StopsReading stop.Memory table_limit left left' faults faults' → Works (Ok job) left left' faults faults' failed' Memory
unread_works job asked left left' faults faults' failed' base (most, same) = record {
  headline = tt;
  accepted = tt;
  returned = tt;
  takes = subst (λ (n : ℕ). TakesAtMost (n + 1) left left') (sym (table_limited job asked base)) most;
  reads = inl same;
  last_take = λ e. absurd cc;
  last_fault = λ e. absurd (e same);
  cause = tt;
  memory = λ e. reads_table job asked base;
}

-- ---- of a certificate
never_past : (within : Verdict) (u gap : ℤ) → verdict.Accepted u gap ≡ past_limit within → ⊥
never_past (verdict.Accepted v g) u gap e = cc
never_past verdict.BadParams u gap e = cc
never_past (verdict.BadBalance i) u gap e = cc
never_past verdict.BadEnergy u gap e = cc
never_past verdict.BadGap u gap e = cc
never_past (verdict.BadLeaf n) u gap e = cc
never_past (verdict.Refused f) u gap e = cc
never_past verdict.ReadFault u gap e = cc
never_past verdict.Memory u gap e = cc

good_accepts : (bytes : List ℕ) (u gap : ℤ) (h : Head) → IsGoodText bytes h → h.u ≡ u → h.gap ≡ gap → IsAccepted bytes u gap
good_accepts bytes u gap h good energy gap_is = record {
  head = h;
  good = good;
  energy = energy;
  gap_is = gap_is;
  certified = rw (sym energy, sym gap_is) (good_certifies h good.tree good.good);
}

pub stream_accepts : (bytes : List ℕ) (u gap : ℤ) → IsStreamVerdict bytes (verdict.Accepted u gap) → IsAccepted bytes u gap
stream_accepts bytes u gap (inl (short, is)) = let (h, good, energy, gap_is) = accepted_is_good bytes u gap is in good_accepts bytes u gap h good energy gap_is
stream_accepts bytes u gap (inr past) = absurd (never_past past.within u gap past.is)

accepts_told : (left : Option (List ℕ)) (v : Verdict) → ((bytes : List ℕ) → left ≡ Some bytes → IsStreamVerdict bytes v) → Accepts left (Checked v)
accepts_told left (verdict.Accepted u gap) told = λ bytes is. stream_accepts bytes u gap (told bytes is)
accepts_told left verdict.BadParams told = tt
accepts_told left (verdict.BadBalance i) told = tt
accepts_told left verdict.BadEnergy told = tt
accepts_told left verdict.BadGap told = tt
accepts_told left (verdict.BadLeaf n) told = tt
accepts_told left (verdict.Refused f) told = tt
accepts_told left verdict.ReadFault told = tt
accepts_told left verdict.Memory told = tt

checked_works : (left left' : Option (List ℕ)) (faults faults' : ℕ) (failed' : Bool) (v : Verdict)
    → end_of v ≡ Checked v → JudgesText IsStreamVerdict left left' faults faults' v → Works (Ok PlainCheck) left left' faults faults' failed' (Checked v)
checked_works left left' faults faults' failed' v printed j = record {
  headline = tt;
  accepted = accepts_told left v j.told;
  returned = tt;
  takes = record { taken = j.most; ended = j.ended };
  reads = j.no_fault;
  last_take = λ e. absurd cc;
  last_fault = λ e. absurd (e j.no_fault);
  cause = (record { asks = refl; told = j.told }, printed);
  memory = λ e. absurd cc;
}

long_works : (left left' : Option (List ℕ)) (faults faults' : ℕ) (failed' : Bool)
    → JudgesText IsStreamVerdict left left' faults faults' (verdict.Refused fault.TooLong) → Works (Ok PlainCheck) left left' faults faults' failed' TooLong
long_works left left' faults faults' failed' j = record {
  headline = tt;
  accepted = tt;
  returned = tt;
  takes = j.long refl;
  reads = j.no_fault;
  last_take = λ e. absurd cc;
  last_fault = λ e. absurd (e j.no_fault);
  cause = inr (record { asks = refl; told = j.told });
  memory = λ e. absurd cc;
}

-- what a verdict comes to
judged_ends : (left left' : Option (List ℕ)) (faults faults' : ℕ) (failed' : Bool) (v : Verdict) → JudgesText IsStreamVerdict left left' faults faults' v
    → Works (Ok PlainCheck) left left' faults faults' failed' (end_of v)
judged_ends left left' faults faults' failed' (verdict.Accepted u gap) j = checked_works left left' faults faults' failed' (verdict.Accepted u gap) refl j
judged_ends left left' faults faults' failed' verdict.BadParams j = checked_works left left' faults faults' failed' verdict.BadParams refl j
judged_ends left left' faults faults' failed' (verdict.BadBalance i) j = checked_works left left' faults faults' failed' (verdict.BadBalance i) refl j
judged_ends left left' faults faults' failed' verdict.BadEnergy j = checked_works left left' faults faults' failed' verdict.BadEnergy refl j
judged_ends left left' faults faults' failed' verdict.BadGap j = checked_works left left' faults faults' failed' verdict.BadGap refl j
judged_ends left left' faults faults' failed' (verdict.BadLeaf n) j = checked_works left left' faults faults' failed' (verdict.BadLeaf n) refl j
judged_ends left left' faults faults' failed' (verdict.Refused fault.Head) j = checked_works left left' faults faults' failed' (verdict.Refused fault.Head) refl j
judged_ends left left' faults faults' failed' (verdict.Refused (fault.Line n)) j = checked_works left left' faults faults' failed' (verdict.Refused (fault.Line n)) refl j
judged_ends left left' faults faults' failed' (verdict.Refused (fault.Tree n)) j = checked_works left left' faults faults' failed' (verdict.Refused (fault.Tree n)) refl j
judged_ends left left' faults faults' failed' (verdict.Refused fault.Cut) j = checked_works left left' faults faults' failed' (verdict.Refused fault.Cut) refl j
judged_ends left left' faults faults' failed' (verdict.Refused (fault.Extra n)) j = checked_works left left' faults faults' failed' (verdict.Refused (fault.Extra n)) refl j
judged_ends left left' faults faults' failed' (verdict.Refused fault.TooLong) j = long_works left left' faults faults' failed' j
judged_ends left left' faults faults' failed' verdict.ReadFault j = absurd j.on_text
judged_ends left left' faults faults' failed' verdict.Memory j = absurd j.on_text

read_works : (left left' : Option (List ℕ)) (faults faults' : ℕ) (failed' : Bool) → FailsToRead left left' faults faults' → failed' ≡ true
    → Works (Ok PlainCheck) left left' faults faults' failed' Read
read_works left left' faults faults' failed' fails failed = record {
  headline = tt;
  accepted = tt;
  returned = tt;
  takes = fails.most;
  reads = fails.fault;
  last_take = λ e. failed;
  last_fault = λ e. failed;
  cause = inr refl;
  memory = λ e. absurd cc;
}

pub check_works : (left left' : Option (List ℕ)) (faults faults' : ℕ) (failed' : Bool) (v : Verdict) (end : End) → AnswersStream left left' faults faults' v
    → (v ≡ verdict.ReadFault → failed' ≡ true) → end ≡ end_of v → Works (Ok PlainCheck) left left' faults faults' failed' end
check_works left left' faults faults' failed' v end (inl j) failed e = rw e (judged_ends left left' faults faults' failed' v j)
check_works left left' faults faults' failed' v end (inr (is, fails)) failed e =
    rw (e, is) (read_works left left' faults faults' failed' fails (failed is))
