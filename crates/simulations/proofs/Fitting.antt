-- What calls need stays so.
use Rattle.std.proofs.Common.{◌≡◌, ℕ, zero, suc, ◌+◌, ◌<◌, ◌≤◌, Bool, true, false, cond, eqb, List, [], ◌∷◌, get_or, set, Some, Ok, Err, Result, ◌∙◌, subst, arith, length-set}
use Rattle.std.specs.List.{AllByRecursion}
use Rattle.elements.specs.declared.entries.Entry.{Entry}
use Rattle.elements.specs.Order.{precedes_by, stamp_of}
use Rattle.stores.specs.declared.refusals.Refusal.{Refusal}
use Rattle.stores.specs.SortedLists.{merge, merge_at, without}
use Rattle.stores.specs.Meaning.{State, list_of}
use Rattle.stores.specs.Calls.{put_after, meld_after, cancel_after}
use Rattle.machine.specs.declared.networks.Network.{Network}
use Rattle.machine.specs.declared.networks.Station.{Station}
use Rattle.machine.specs.declared.networks.OrderState.{OrderState}
use Rattle.machine.specs.Network.{no_station, station, marked, occupied, freed, closed, with_busy, with_into}
use Rattle.simulations.specs.Conditions.{IsStation, WhenSome, StationFit, StateFit, OrderFit, NetworkFit, Each}

module _ {A : Type 0} (P : A → Type 0) where
  pub all_get : (xs : List A) (k : ℕ) (d : A) → AllByRecursion P xs → P d → P (get_or xs k d)
  all_get [] k d h z = z
  all_get (x ∷ xs) zero d h z = h.0
  all_get (x ∷ xs) (suc k) d h z = all_get xs k d h.1 z

  pub all_set : (xs : List A) (k : ℕ) (y : A) → AllByRecursion P xs → P y → AllByRecursion P (set xs k y)
  all_set [] k y h z = tt
  all_set (x ∷ xs) zero y h z = (z, h.1)
  all_set (x ∷ xs) (suc k) y h z = (h.0, all_set xs k y h.1 z)

  either : (b : Bool) (xs ys : List A) → AllByRecursion P xs → AllByRecursion P ys → AllByRecursion P (elim b [ true ↦ xs | false ↦ ys ])
  either true xs ys p q = p
  either false xs ys p q = q

  merge_at_all : (before : A → A → Bool) (x : A) (others : List A → List A) (ys : List A) → P x → ((zs : List A) → AllByRecursion P zs → AllByRecursion P (others zs)) → AllByRecursion P ys → AllByRecursion P (merge_at before x others ys)
  merge_at_all before x others [] p f h = (p, f [] tt)
  merge_at_all before x others (y ∷ ys) p f h = either (before y x) (y ∷ merge_at before x others ys) (x ∷ others (y ∷ ys)) (h.0, merge_at_all before x others ys p f h.1) (p, f (y ∷ ys) h)

  pub all_merge : (before : A → A → Bool) (xs ys : List A) → AllByRecursion P xs → AllByRecursion P ys → AllByRecursion P (merge before xs ys)
  all_merge before [] ys h i = i
  all_merge before (x ∷ xs) ys h i = merge_at_all before x (merge before xs) ys h.0 (λ zs z. all_merge before xs zs h.1 z) i

  without_by : (b : Bool) (x : A) (xs ys : List A) → P x → AllByRecursion P xs → AllByRecursion P ys → AllByRecursion P (cond b xs (x ∷ ys))
  without_by true x xs ys p h i = h
  without_by false x xs ys p h i = (p, i)

  all_without : (key : A → ℕ) (k : ℕ) (xs : List A) → AllByRecursion P xs → AllByRecursion P (without key k xs)
  all_without key k [] h = tt
  all_without key k (x ∷ xs) h = without_by (eqb (key x) k) x xs (without key k xs) h.0 h.1 (all_without key k xs h.1)

module _ {T : Type 0} (P : Entry T → Type 0) where
  pub each_at : (s : State T) (q : ℕ) → Each P s → AllByRecursion P (list_of s q)
  each_at s q h = all_get (AllByRecursion P) s.lists q [] h.entries tt

  each_with : (s : State T) (q n : ℕ) (xs : List (Entry T)) → Each P s → AllByRecursion P xs → Each P (record { lists = set s.lists q xs; next = n })
  each_with s q n xs h a = record { queues = length-set s.lists q xs ∙ h.queues; entries = all_set (AllByRecursion P) s.lists q xs h.entries a }

  pub each_put : (le : T → T → Bool) (s : State T) (q : ℕ) (x : T) (r : Result ℕ Refusal) → ((n : ℕ) → P (record { element = x; stamp = n })) → Each P s → Each P (put_after le s q x r)
  each_put le s q x (Err f) p h = h
  each_put le s q x (Ok n) p h = each_with s q (n + 1) _ h (all_merge P (precedes_by le) (record { element = x; stamp = n } ∷ []) (list_of s q) (p n, tt) (each_at s q h))

  pub each_meld : (le : T → T → Bool) (s : State T) (a b : ℕ) (r : Result ℕ Refusal) → Each P s → Each P (meld_after le s a b r)
  each_meld le s a b (Err f) h = h
  each_meld le s a b (Ok n) h = each_with (record { lists = set s.lists a (merge (precedes_by le) (list_of s a) (list_of s b)); next = s.next }) b s.next [] (each_with s a s.next _ h (all_merge P (precedes_by le) (list_of s a) (list_of s b) (each_at s a h) (each_at s b h))) tt

  pub each_cancel : (s : State T) (k : ℕ) (r : Result ℕ Refusal) → Each P s → Each P (cancel_after s k r)
  each_cancel s k (Err f) h = h
  each_cancel s k (Ok q) h = each_with s q s.next _ h (all_without P stamp_of k (list_of s q) (each_at s q h))

no_station_fit : StationFit no_station
no_station_fit = record { benches = omega arith; busy = omega arith; takes = omega arith; next = tt; into = tt }

pub station_fit : (n : Network) (k : ℕ) → NetworkFit n → StationFit (station n k)
station_fit n k h = all_get StationFit n.stations k no_station h.each_station no_station_fit

pub into_station : (n : Network) (k j : ℕ) → NetworkFit n → (station n k).into ≡ Some j → IsStation j
into_station n k j h e = subst (WhenSome IsStation) e (station_fit n k h).into

pub fit_station : (k : ℕ) (s : Station) (n : Network) → StationFit s → NetworkFit n → NetworkFit (record { stations = set n.stations k s; orders = n.orders; declared = n.declared })
fit_station k s n f h = record { stations = length-set n.stations k s ∙ h.stations; orders = h.orders; each_station = all_set StationFit n.stations k s h.each_station f; each_order = h.each_order }

pub fit_marked : (i : ℕ) (st : OrderState) (n : Network) → StateFit st → NetworkFit n → NetworkFit (marked i st n)
fit_marked i st n z h = record { stations = h.stations; orders = length-set n.orders i _ ∙ h.orders; each_station = h.each_station; each_order = all_set OrderFit n.orders i _ h.each_order z }

busied : (s : Station) (b : ℕ) → b ≤ 8 → StationFit s → StationFit (with_busy s b)
busied s b l h = record { benches = h.benches; busy = l; takes = h.takes; next = h.next; into = h.into }

pub fit_occupied : (k : ℕ) (n : Network) → (station n k).busy < 8 → NetworkFit n → NetworkFit (occupied k n)
fit_occupied k n l h = fit_station k _ n (busied (station n k) _ (omega arith) (station_fit n k h)) h

pub fit_freed : (k : ℕ) (n : Network) → NetworkFit n → NetworkFit (freed k n)
fit_freed k n h = fit_station k _ n (busied (station n k) _ (omega (arith, (station_fit n k h).busy)) (station_fit n k h)) h

shut_in : (s : Station) (j : ℕ) → IsStation j → StationFit s → StationFit (with_into s j)
shut_in s j l h = record { benches = h.benches; busy = h.busy; takes = h.takes; next = h.next; into = l }

pub fit_closed : (k j : ℕ) (n : Network) → IsStation j → NetworkFit n → NetworkFit (closed k j n)
fit_closed k j n l h = fit_station k _ n (shut_in (station n k) j l (station_fit n k h)) h
