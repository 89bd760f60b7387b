use Rattle.std.proofs.Common.{◌≡◌, ◌≤◌, length, map, drop, take}
use Rattle.std.specs.List.{sum}
use Rattle.case_words.specs.Names.{text_of}
use Rattle.component_table.specs.Rows.{plain_row}
use Rattle.component_table.specs.Choosing.{with_names, none_chosen, IsLive}
use Rattle.component_table.specs.Rising.{AreRisingBelow}
use Rattle.component_table.specs.Chosens.{plain_chosen}
use Rattle.component_table.proofs.live_names.choose.Given as goal

abbrev pub invariant-loop-i : goal.invariant-loop-i
invariant-loop-i l = record {
  so_far : with_names 0 (map plain_row l.comps) none_chosen (map text_of l.job.names.items) l.job.z.items
      ≡ with_names l.i (map plain_row l.comps) (plain_chosen l.chosen) (drop l.i (map text_of l.job.names.items)) l.job.z.items;
  few : length l.chosen.parts.items ≤ l.i;
  total : l.chosen.total ≡ sum (take l.i l.job.z.items);
  live : IsLive (plain_chosen l.chosen) l.chosen.total;
  rising : AreRisingBelow l.i l.chosen.live.items;
}
