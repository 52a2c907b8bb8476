-- The place of a form in a draft, by the network and the stamps that the event store has issued.
use Rattle.std.specs.Prelude.{ℕ, Bool, ◌&&◌, Some, None, Ok, Err, Option, Result, ◌==◌, nat_lt}
use Rattle.machine.specs.declared.networks.Network.{Network}
use Rattle.machine.specs.declared.forms.Form.{Form}
use Rattle.machine.specs.declared.forms.Form.TheVariants.{Station, Order, Withdraw, Close, End}
use Rattle.machine.specs.declared.forms.FormRefusal.{FormRefusal}
use Rattle.machine.specs.Forms.{some_station, in_range, names_declared, checked}

abbrev pub placed : Form → Network → ℕ → Bool
placed (Station k b d w n) net issued = issued == 0 && k == net.declared.stations
placed (Order i t u v k) net issued = some_station net && i == net.declared.orders
placed (Withdraw i t) net issued = nat_lt i net.declared.orders
placed (Close k t j) net issued = some_station net
placed (End t) net issued = some_station net

-- why a form is refused before it reaches the event store, if it is
abbrev pub at_once : Form → Network → ℕ → Option FormRefusal
at_once f net issued = checked (in_range f) (placed f net issued) (names_declared f net)

-- why a form was refused, if it was
abbrev pub refusal_in : {A : Type 0} → Result A FormRefusal → Option FormRefusal
refusal_in (Ok a) = None
refusal_in (Err r) = Some r
