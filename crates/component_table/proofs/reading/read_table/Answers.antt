use Rattle.std.proofs.Common.{Bor, List, ℕ, ◌∙◌, sym, refl, inl, inr, Some, ◌∷◌, [], arith, ◌++◌, ◌+◌, ap}
use Rattle.std.proofs.lemmas.List.{length_push, length-map}
use Rattle.csv.specs.Reading.{Reached, default_config, strip_bom}
use Rattle.csv.specs.Records.{fields_of}
use Rattle.csv.specs.declared.parser.State.TheVariants as st
use Rattle.csv.proofs.ReadFacts.{rows-end, rows-more}
use Rattle.component_table.specs.Tables.{with_records, nothing}
use Rattle.component_table.specs.Rows.{plain_row}
use Rattle.component_table.specs.Views.{drafted}
use Rattle.component_table.proofs.Kept.{kept-records, kept-nothing}
use Rattle.component_table.proofs.Reached.{few, faulty, complete, no_record, grows}
use Rattle.component_table.proofs.reading.read_table.Goals as goal

pub loop-record-init : goal.loop-record-init
unfolding Reached with_records
loop-record-init c =
    let fr = c.from_reader-reader.ensures in
    let e = c.has_headers.ensures in
    let fl = c.flexible.ensures in
    let start = c.into_iter-record-iterator.ensures.into_iter_gives ∙ refl in
    let rdr = c.into_byte_records-record-items.ensures.rdr in
    let left = c.into_byte_records-record-items.ensures.left in
    rw (start, rdr, c.new-draft.ensures.comps, c.new-draft.ensures.pairs, c.new-draft.ensures.cps) (
      rw (fl, e) at fr.trim ∙ c.new.ensures.trim,
      inr (inr (rw (fl, e) at fr.has_headers, fr.headers)),
      left,
      rw (fl, e) at fr.config ∙ c.new.ensures.config,
      strip_bom c.args.bytes.now,
      fr.source,
      [],
      (sym fr.state, refl),
      refl,
      refl,
      omega arith,
    )

pub overflow_add-n : goal.overflow_add-n
overflow_add-n c =
    let inv = c.loop-record.invariant in
    omega (arith, few c.args.bytes.now inv.4 inv.6 c.loop-record.record-iterator.rdr.state inv.7, inv.9, c.requires)

pub returns-in-Err-clause-fault : goal.returns-in-Err-clause-fault
returns-in-Err-clause-fault c =
    let inv = c.loop-record.invariant in
    let s = rw (c.in-Some.is, c.in-Ok.is) at ((c.next.ensures.steps inv.2 inv.0).0 inv.1) in
    let r = fields_of c.in-Ok.record in
    let m = rows-more (λ (s : Bor (List ℕ)). Some s.now) c.loop-record.record-iterator.rdr c.next.new.self.rdr r default_config st.StartRecord (strip_bom c.args.bytes.now) inv.4 inv.6 inv.3 inv.5 inv.7 s.0 in
    faulty c.args.bytes.now m.0 inv.6 r c.next.new.self.rdr.state (drafted c.loop-record.draft) c.in-Err.error (c.loop-record.n + 1) m.2 inv.8
    (omega (arith, inv.9)) c.in-Err.ensures.fault

pub loop-record-preserved : goal.loop-record-preserved
loop-record-preserved c =
    let inv = c.loop-record.invariant in
    let s = rw (c.in-Some.is, c.in-Ok.is) at ((c.next.ensures.steps inv.2 inv.0).0 inv.1) in
    let r = fields_of c.in-Ok.record in
    let m = rows-more (λ (s : Bor (List ℕ)). Some s.now) c.loop-record.record-iterator.rdr c.next.new.self.rdr r default_config st.StartRecord (strip_bom c.args.bytes.now) inv.4 inv.6 inv.3 inv.5 inv.7 s.0 in (
      s.0.3 ∙ inv.0,
      inl s.1,
      s.2,
      s.0.2 ∙ inv.3,
      m.0,
      m.1,
      inv.6 ++ (r ∷ []),
      m.2,
      grows inv.6 r (drafted c.loop-record.draft) (drafted c.take.new.self) (c.loop-record.n + 1) inv.8 (omega (arith, inv.9)) c.in_default-take.ensures.taken,
      length_push inv.6 r ∙ ap (λ (k : ℕ). k + 1) inv.9,
      c.in_default-take.ensures.few,
    )

pub returns-then-n-eq0-clause-fault : goal.returns-then-n-eq0-clause-fault
returns-then-n-eq0-clause-fault c =
    let inv = c.loop-record.invariant in
    let s = rw c.in-None.is at ((c.next.ensures.steps inv.2 inv.0).0 inv.1) in
    no_record c.args.bytes.now inv.4 inv.6 c.loop-record.record-iterator.rdr.state inv.7
    (rows-end (λ (s : Bor (List ℕ)). Some s.now) c.loop-record.record-iterator.rdr c.next.new.self.rdr [] default_config inv.4 inv.3 inv.5 s)
    (inv.9 ∙ c.if-n-eq0.true)

pub returns-clause-table : goal.returns-clause-table
returns-clause-table c =
    let inv = c.loop-record.invariant in
    let s = rw c.in-None.is at ((c.next.ensures.steps inv.2 inv.0).0 inv.1) in
    complete c.args.bytes.now inv.4 inv.6 c.loop-record.record-iterator.rdr.state (drafted c.loop-record.draft) inv.7
    (rows-end (λ (s : Bor (List ℕ)). Some s.now) c.loop-record.record-iterator.rdr c.next.new.self.rdr [] default_config inv.4 inv.3 inv.5 s)
    inv.8 (omega (arith, inv.9, c.if-n-eq0.false))

pub invariant_of-result : goal.invariant_of-result
invariant_of-result c =
    let inv = c.loop-record.invariant in
    let kept = kept-records 1 nothing (drafted c.loop-record.draft) inv.6 inv.8 kept-nothing in
    let comps = c.loop-record.draft.comps.items in
    let count = length-map comps plain_row in
    record {
      few = inv.10;
      rows = kept.rows;
      named = kept.named;
      names = kept.names;
      interactions = kept.interactions;
      pair_places = rw count at kept.pair_places;
      once = kept.once;
      coefficients = kept.coefficients;
      cp_places = rw count at kept.cp_places;
      cp_once = kept.cp_once;
    }
