-- When one event, and one order that waits, is no later than another.
use Rattle.std.specs.Prelude.{Bool, cond, ◌==◌, nat_le, nat_lt}
use Rattle.elements.specs.declared.events.Event.{Event}
use Rattle.elements.specs.declared.lines.LineEntry.{LineEntry}

-- events by time alone
abbrev pub event_le : Event → Event → Bool
event_le a b = nat_le a.time b.time

-- orders that wait, by urgency, then by due tick
abbrev pub line_le : LineEntry → LineEntry → Bool
line_le a b = cond (a.urgency == b.urgency) (nat_le a.due b.due) (nat_lt a.urgency b.urgency)
