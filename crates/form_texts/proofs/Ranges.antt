-- Capping changes no refusal: a number above 32 bits is out of its range before and after.
use Rattle.std.proofs.Common.{◌≡◌, ℕ, ◌<◌, ◌≤◌, Bool, true, false, ◌&&◌, leb, ◌⊎◌, List, Some, None, Option, sym, refl, ap, ◌∙◌, inl, inr, arith}
use Rattle.std.proofs.lemmas.Bool.{cases_Bool}
use Rattle.std.proofs.lemmas.Bool.Decides.{nat_tests}
use Rattle.machine.specs.declared.forms.Form.{Form}
use Rattle.machine.specs.declared.forms.Form.TheVariants.{Station, Order, Withdraw, Close, End}
use Rattle.machine.specs.Machine.{Machine, with_refusal}
use Rattle.machine.specs.Forms.{station_number, order_number, tick, next_number, in_range, in_place, names_declared, checked, form_by, form}
use Rattle.machine.specs.Script.{limit_by, limit_of}
use Rattle.form_texts.specs.Capping.{cap, cap_next, capped}

-- a number that is at most a bound is not capped
whole : (n b : ℕ) → b < 4294967295 → leb n b ≡ true → cap n ≡ n
whole n b small t = let h : n ≤ b = grind (arith, nat_tests, t) in omega arith

same_most : (n b : ℕ) → b < 4294967295 → leb (cap n) b ≡ leb n b
same_most n b small = grind (arith, nat_tests)

same_least : (n : ℕ) → leb 1 (cap n) ≡ leb 1 n
same_least n = grind (arith, nat_tests)

same_station : (k : ℕ) → station_number (cap k) ≡ station_number k
same_station k = same_most k 31 (omega arith)

same_order : (i : ℕ) → order_number (cap i) ≡ order_number i
same_order i = same_most i 1023 (omega arith)

same_tick : (t : ℕ) → tick (cap t) ≡ tick t
same_tick t = same_most t 1000000000 (omega arith)

same_next : (n : Option ℕ) → next_number (cap_next n) ≡ next_number n
same_next None = refl
same_next (Some m) = same_station m

pub same_range : (f : Form) → in_range (capped f) ≡ in_range f
same_range (Station k b d w n) = λ j. same_station k j && (same_least b j && (same_most b 8 (omega arith) j && (same_least d j && (same_most d 1000000 (omega arith) j && (same_most w 4096 (omega arith) j && same_next n j)))))
same_range (Order i t u v k) = λ j. same_order i j && (same_tick t j && (same_most u 9 (omega arith) j && (same_tick v j && same_station k j)))
same_range (Withdraw i t) = λ j. same_order i j && same_tick t j
same_range (Close k t l) = λ j. same_station k j && (same_tick t j && same_station l j)
same_range (End t) = same_tick t

left : (a b : Bool) → (a && b) ≡ true → a ≡ true
left a b t = grind (arith, nat_tests)

right : (a b : Bool) → (a && b) ≡ true → b ≡ true
right a b t = grind (arith, nat_tests)

whole_station : (k : ℕ) → station_number k ≡ true → cap k ≡ k
whole_station k = whole k 31 (omega arith)

whole_order : (i : ℕ) → order_number i ≡ true → cap i ≡ i
whole_order i = whole i 1023 (omega arith)

whole_tick : (t : ℕ) → tick t ≡ true → cap t ≡ t
whole_tick t = whole t 1000000000 (omega arith)

whole_next : (n : Option ℕ) → next_number n ≡ true → cap_next n ≡ n
whole_next None h = refl
whole_next (Some m) h = ap Some (whole_station m h)

-- a form in range is not cappedped
pub whole_form : (f : Form) → in_range f ≡ true → capped f ≡ f
whole_form (Station k b d w n) h =
    let r1 = right (station_number k) _ h in
    let r2 = right (leb 1 b) _ r1 in
    let r3 = right (leb b 8) _ r2 in
    let r4 = right (leb 1 d) _ r3 in
    let r5 = right (leb d 1000000) _ r4 in
    λ j. Station
    (whole_station k (left _ _ h) j)
    (whole b 8 (omega arith) (left _ _ r2) j)
    (whole d 1000000 (omega arith) (left _ _ r4) j)
    (whole w 4096 (omega arith) (left _ _ r5) j)
    (whole_next n (right (leb w 4096) _ r5) j)
whole_form (Order i t u v k) h =
    let r1 = right (order_number i) _ h in
    let r2 = right (tick t) _ r1 in
    let r3 = right (leb u 9) _ r2 in
    λ j. Order
    (whole_order i (left _ _ h) j)
    (whole_tick t (left _ _ r1) j)
    (whole u 9 (omega arith) (left _ _ r2) j)
    (whole_tick v (left _ _ r3) j)
    (whole_station k (right (tick v) _ r3) j)
whole_form (Withdraw i t) h = λ j. Withdraw (whole_order i (left _ _ h) j) (whole_tick t (right (order_number i) _ h) j)
whole_form (Close k t l) h =
    let r1 = right (station_number k) _ h in
    λ j. Close (whole_station k (left _ _ h) j) (whole_tick t (left _ _ r1) j) (whole_station l (right (tick t) _ r1) j)
whole_form (End t) h = λ j. End (whole_tick t h j)

-- what a form out of range leaves does not depend on its numbers
out_of_range : (f g : Form) (m : Machine) → in_range f ≡ false → in_range g ≡ false → form f m ≡ form g m
out_of_range f g m p q =
    ap (λ r. form_by (checked r (in_place f m) (names_declared f m.network)) f (with_refusal m None)) p
    ∙ sym (ap (λ r. form_by (checked r (in_place g m) (names_declared g m.network)) g (with_refusal m None)) q)

-- so a capped form does what the form does
pub capped_form : (f : Form) (m : Machine) → form (capped f) m ≡ form f m
capped_form f m = go (cases_Bool (in_range f))
  where
    go : (in_range f ≡ true) ⊎ (in_range f ≡ false) → form (capped f) m ≡ form f m
    go (inl h) = ap (λ g. form g m) (whole_form f h)
    go (inr h) = out_of_range (capped f) f m (same_range f ∙ h) h

-- and sets the limit that the form sets
pub capped_limit : (f : Form) (ls : List ℕ) → limit_of (Some (capped f)) ls ≡ limit_of (Some f) ls
capped_limit (Station k b d w n) ls = go (cases_Bool (in_range (Station k b d w n)))
  where
    go : (in_range (Station k b d w n) ≡ true) ⊎ (in_range (Station k b d w n) ≡ false) → limit_of (Some (capped (Station k b d w n))) ls ≡ limit_of (Some (Station k b d w n)) ls
    go (inl h) = ap (λ f. limit_of (Some f) ls) (whole_form (Station k b d w n) h)
    go (inr h) = ap (λ r. limit_by r (cap k) (cap w) ls) (same_range (Station k b d w n) ∙ h) ∙ sym (ap (λ r. limit_by r k w ls) h)
capped_limit (Order i t u v k) ls = refl
capped_limit (Withdraw i t) ls = refl
capped_limit (Close k t j) ls = refl
capped_limit (End t) ls = refl
