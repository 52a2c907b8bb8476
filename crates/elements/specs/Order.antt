-- The laws of an order of elements, and the order of entries that it gives.
use Rattle.std.specs.Prelude.{◌≡◌, ℕ, Bool, true, false, cond, ◌≢◌, nat_lt}
use Rattle.elements.specs.declared.entries.Entry.{Entry}

-- "no later than": of any two at least one is no later than the other, and it is transitive
pub record Laws {T : Type 0} (le : T → T → Bool) : Type 0 where
  pub total : (a b : T) → le a b ≡ false → le b a ≡ true
  pub transitive : (a b c : T) → le a b ≡ true → le b c ≡ true → le a c ≡ true

-- so each is no later than itself
abbrev pub Reflexive : {T : Type 0} → (T → T → Bool) → Type 0
Reflexive {T} le = (a : T) → le a a ≡ true

-- entry a precedes b: b's element is not no later than a's, or each is no later than the other and a's stamp is smaller
abbrev pub precedes_by : {T : Type 0} → (T → T → Bool) → Entry T → Entry T → Bool
precedes_by le a b = cond (le b.element a.element) (cond (le a.element b.element) (nat_lt a.stamp b.stamp) false) true

abbrev pub stamp_of : {T : Type 0} → Entry T → ℕ
stamp_of e = e.stamp

-- a strict weak order that is total between different keys
pub record Strict {A : Type 0} (before : A → A → Bool) (key : A → ℕ) : Type 0 where
  pub irreflexive : (x : A) → before x x ≡ false
  pub asymmetric : (x y : A) → before x y ≡ true → before y x ≡ false
  pub transitive : (x y z : A) → before x y ≡ true → before y z ≡ true → before x z ≡ true
  pub negatively_transitive : (x y z : A) → before x y ≡ false → before y z ≡ false → before x z ≡ false
  pub total : (x y : A) → (key x ≢ key y) → before x y ≡ false → before y x ≡ true
