-- `table::passes::pass_entries` meets its contract. Assumes nothing.
use Rattle.std.proofs.Common.{◌≡◌, ◌-◌, ◌≤◌}
use Rattle.table.specs.Marks.{Passed, NoVias, rules_below}
use Rattle.table.proofs.passes.pass_entries.Given as goal

abbrev pub invariant-loop-i : goal.invariant-loop-i
invariant-loop-i l = record {
  inside : l.from ≤ l.table.top;
  few : l.vias ≤ l.from;
  passed : Passed l.cells l.table.slots l.bodies l.table.words.now l.from l.seen l.used;
  alone : NoVias l.table.slots l.table.words.now l.from l.vias;
  counted : l.rules ≡ rules_below l.table.slots l.table.words.now l.from;
}

abbrev pub decreases-loop-i : goal.decreases-loop-i
decreases-loop-i l = l.table.top - l.from
