-- The next stations of a list of stations, by the library's word.
use Rattle.std.proofs.Common.{◌≡◌, ◌&&◌, List, [], ◌∷◌, refl, ap}
use Rattle.std.specs.List.{list_all}
use Rattle.machine.specs.declared.networks.Network.{Network}
use Rattle.machine.specs.declared.networks.Station.{Station}
use Rattle.machine.specs.Forms.{next_declared, all_next}

pub each_next : (n : Network) (ss : List Station) → list_all (λ (s : Station). next_declared n s.next) ss ≡ all_next n ss
each_next n [] = refl
each_next n (s ∷ ss) = ap (λ b. next_declared n s.next && b) (each_next n ss)
