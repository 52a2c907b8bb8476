-- An order is taken in hand, or spent.
use Rattle.std.proofs.Common.{◌≡◌, ℕ, zero, suc, ◌+◌, ◌<◌, ◌≤◌, ◌⊎◌, List, [], ◌∷◌, length, get_or, take, set, sum_by, sym, refl, ap, ◌∙◌, subst, inl, inr, arith}
use Rattle.std.proofs.lemmas.List.{length-take-le, get_or-set_same, get_or-set_other, get_or-take}
use Rattle.std.proofs.lemmas.List.Sums.{sum_by-set}
use Rattle.std.proofs.lemmas.Bool.{cases_eq}
use Rattle.machine.specs.declared.networks.Order.{Order}
use Rattle.machine.specs.declared.networks.Network.{Network}
use Rattle.machine.specs.declared.networks.OrderState.{OrderState}
use Rattle.machine.specs.Network.{no_order, order, with_state}
use Rattle.machine.specs.Machine.{Machine}
use Rattle.machine.specs.Closing.{declared_orders}
use Rattle.machine_laws.proofs.Orders.{Hand, IsInHand, Out, stale, pending_in, pending, Fits, Orders, Same, Stays, fits_same, hands_same}

-- order i changes its state, in a network with the same declared orders
pub record Marks (i : ℕ) (st : OrderState) (a b : Network) : Type 0 where
  pub orders : b.orders ≡ set a.orders i (with_state (order a i) st)
  pub declared : b.declared.orders ≡ a.declared.orders

module _ {A : Type 0} where
  take-set : (n : ℕ) (xs : List A) (i : ℕ) (a : A) → take n (set xs i a) ≡ set (take n xs) i a
  take-set n [] i a = go n
    where
      go : (k : ℕ) → take {A = A} k [] ≡ set (take k []) i a
      go zero = refl
      go (suc k) = refl
  take-set zero (x ∷ xs) i a = refl
  take-set (suc n) (x ∷ xs) zero a = refl
  take-set (suc n) (x ∷ xs) (suc i) a = ap (λ ys. x ∷ ys) (take-set n xs i a)

  -- a sum over the first d elements, one of which is another
  sum_take_set : (f : A → ℕ) (d : ℕ) (xs : List A) (i : ℕ) (a z : A) → i < d → d ≤ length xs → sum_by f (take d (set xs i a)) + f (get_or xs i z) ≡ sum_by f (take d xs) + f a
  sum_take_set f d xs i a z lt le = omega (arith, ap (sum_by f) (take-set d xs i a), sum_by-set f (take d xs) i a z (omega (arith, length-take-le d xs le)), ap f (get_or-take d xs i z lt))

module _ (i : ℕ) (st : OrderState) (a b : Network) (k : Marks i st a b) (lt : i < a.declared.orders) (few : a.declared.orders ≤ length a.orders) where
  pub state_here : (order b i).state ≡ st
  state_here = ap (λ os. (get_or os i no_order).state) k.orders ∙ ap (λ (o : Order). o.state) (get_or-set_same a.orders i (with_state (order a i) st) no_order (omega arith))

  pub pending_marked : pending b + pending_in (order a i).state ≡ pending a + pending_in st
  pending_marked =
      let e : declared_orders b ≡ take a.declared.orders (set a.orders i (with_state (order a i) st)) = λ j. take (k.declared j) (k.orders j) in
      omega (arith, ap (sum_by (λ (o : Order). pending_in o.state)) e, sum_take_set (λ (o : Order). pending_in o.state) a.declared.orders a.orders i (with_state (order a i) st) no_order lt few)

pub state_there : (i : ℕ) (st : OrderState) (a b : Network) → Marks i st a b → (j : ℕ) → (j ≡ i → ⊥) → (order b j).state ≡ (order a j).state
state_there i st a b k j ne = ap (λ os. (get_or os j no_order).state) k.orders ∙ ap (λ (o : Order). o.state) (get_or-set_other a.orders i j (with_state (order a i) st) no_order ne)

stale_marked : (i : ℕ) (st : OrderState) (a b : Network) → Marks i st a b → (h : List Hand) → Out h i → stale b h ≡ stale a h
stale_marked i st a b k [] o = refl
stale_marked i st a b k (x ∷ h) o = λ j. pending_in (state_there i st a b k x.order o.0 j) + stale_marked i st a b k h o.1 j

-- order i is spent: it is started, waits, is away, done or stranded
pub spend : (i : ℕ) (st : OrderState) (x : Hand) (h : List Hand) (n : ℕ) (m v : Machine) → x.order ≡ i → Orders (x ∷ h) n m → m.network.declared.orders ≤ length m.network.orders → Marks i st m.network v.network → pending_in st ≡ 0 → Stays m v → ((j : ℕ) → (j ≡ i → ⊥) → Same m v j) → Fits v i st → Orders h n v
spend i st x h n m v xi o few k z f same here =
    let lt : i < m.network.declared.orders = subst (λ y. y < m.network.declared.orders) xi o.hand.0.declared in
    let out : Out h i = subst (Out h) xi o.apart.0 in
    record {
      pending = omega (arith, pending_marked i st m.network v.network k lt few, o.pending, z, ap (λ y. pending_in (order m.network y).state) xi, stale_marked i st m.network v.network k h out);
      hand = hands_same m v i h k.declared same out o.hand.1;
      apart = o.apart.1;
      fits = λ j q. go j q (cases_eq j i);
    }
  where
    go : (j : ℕ) → Out h j → (j ≡ i) ⊎ (j ≡ i → ⊥) → Fits v j (order v.network j).state
    go j q (inl e) = subst (λ y. Fits v y (order v.network y).state) (sym e) (subst (Fits v i) (sym (state_here i st m.network v.network k (subst (λ y. y < m.network.declared.orders) xi o.hand.0.declared) few)) here)
    go j q (inr e) = subst (Fits v j) (sym (state_there i st m.network v.network k j e)) (fits_same m v j (order m.network j).state k.declared f (same j e) (o.fits j ((λ p. e (sym p ∙ xi)), q)))

-- order x is taken in hand: stores and records have nothing of it any more
pub hold : (x : Hand) (h : List Hand) (n p : ℕ) (m v : Machine) → Out h x.order → Orders h n m → v.network ≡ m.network → n ≡ p + pending_in (order m.network x.order).state → Stays m v → ((j : ℕ) → (j ≡ x.order → ⊥) → Same m v j) → IsInHand v x → Orders (x ∷ h) p v
hold x h n p m v out o e a f same here = record {
  pending = ap pending e ∙ (omega (arith, o.pending, a) ∙ ap (λ w. p + stale w (x ∷ h)) (sym e));
  hand = (here, hands_same m v x.order h (ap (λ w. w.declared.orders) e) same out o.hand);
  apart = (out, o.apart);
  fits = λ j q. subst (λ w. Fits v j (order w j).state) (sym e) (fits_same m v j (order m.network j).state (ap (λ w. w.declared.orders) e) f (same j (λ r. q.0 (sym r))) (o.fits j q.1));
}
