use Rattle.footpaths.proofs.stop_table.StopTable.with_ids.Goals as goal

pub invariant_of-result : goal.invariant_of-result
invariant_of-result c = rw c.in-Ok-copies_of.ensures (record {
  few = c.requires.few;
  checked = c.requires.checked;
  named = c.requires.ids;
  platform = c.in-Ok.ensures;
  station = c.in-Ok-station_ids.ensures;
  parent = c.in-Ok-parents_of.ensures;
})
