-- Orders that are counted by their states.
use Rattle.std.specs.Prelude.{ℕ, ◌+◌}
use Rattle.machine.specs.declared.records.Totals.{Totals}

-- how many are counted in all
abbrev pub whole : Totals → ℕ
whole t = t.pending + t.waiting + t.serving + t.done + t.away + t.withdrawn + t.stranded

-- the counts of two lots together
abbrev pub plus : Totals → Totals → Totals
plus a b = record {
  pending = a.pending + b.pending;
  waiting = a.waiting + b.waiting;
  serving = a.serving + b.serving;
  done = a.done + b.done;
  away = a.away + b.away;
  withdrawn = a.withdrawn + b.withdrawn;
  stranded = a.stranded + b.stranded;
}
