-- Following closings comes to an open station.
use Rattle.std.proofs.Common.{◌≡◌, ℕ, zero, suc, ◌+◌, ◌-◌, ◌<◌, ◌≤◌, false, cond, ◌||◌, eqb, ◌⊎◌, length, Some, None, count_by, Option, sym, refl, ap, ◌∙◌, subst, inl, inr, suc-add, zero-add, arith}
use Rattle.std.proofs.lemmas.List.{length-set, get_or-set_same, get_or-set_other, set_past}
use Rattle.std.proofs.lemmas.List.Sums.{sum_by-set, count_by-le-length}
use Rattle.std.proofs.lemmas.Bool.{cases_eq, cases_lt, or_parts, eqb-false}
use Rattle.machine.specs.declared.networks.Station.{Station}
use Rattle.machine.specs.declared.networks.Network.{Network}
use Rattle.machine.specs.Network.{no_station, station, with_station, with_into, closed, follow_by, follow}
use Rattle.machine.specs.Machine.{is_some}
use Rattle.machine.specs.Step.{stays_open}
use Rattle.machine_laws.specs.Closings.{LeadsToOpen}

abbrev one : Option ℕ → ℕ
one o = cond (is_some o) 1 0

abbrev pub closed_in : Network → ℕ
closed_in n = count_by (λ (s : Station). is_some s.into) n.stations

-- as many closings as there are closed stations lead to an open one
pub record Forest (n : Network) : Type 0 where
  pub stations : length n.stations ≡ 32
  pub opens : (k : ℕ) → (station n (follow (closed_in n) n k)).into ≡ None

none_of : {X : Type 0} (o : Option X) → is_some o ≡ false → o ≡ None
none_of None e = refl
none_of (Some x) e = absurd (let z : ◌≡◌ {A = ℕ} 0 1 = cc in omega arith)

follow_open : (b : ℕ) (n : Network) (k : ℕ) → (station n k).into ≡ None → follow b n k ≡ k
follow_open zero n k e = refl
follow_open (suc b) n k e = ap (λ o. follow_by o (follow b n) k) e

-- an open station that was reached stays reached
follow_more : (b d : ℕ) (n : Network) (k : ℕ) → (station n (follow b n k)).into ≡ None → follow (b + d) n k ≡ follow b n k
follow_more zero d n k e = rw (zero-add d) (follow_open d n k e)
follow_more (suc b) d n k e = rw (suc-add b d) (go (station n k).into refl (λ j. follow_more b d n j))
  where
    go : (o : Option ℕ) → (station n k).into ≡ o → ((j : ℕ) → (station n (follow b n j)).into ≡ None → follow (b + d) n j ≡ follow b n j) → follow (suc (b + d)) n k ≡ follow (suc b) n k
    go None p ih = follow_open (suc (b + d)) n k p ∙ sym (follow_open (suc b) n k p)
    go (Some j) p ih = ap (λ o. follow_by o (follow (b + d) n) k) p ∙ ih j (subst (λ x. (station n x).into ≡ None) (ap (λ o. follow_by o (follow b n) k) p) e) ∙ sym (ap (λ o. follow_by o (follow b n) k) p)

pub leads : (n : Network) → Forest n → LeadsToOpen n
leads n h k =
    let le : closed_in n ≤ 32 = omega (arith, count_by-le-length (λ (s : Station). is_some s.into) n.stations, h.stations) in
    go (32 - closed_in n) (omega arith)
  where
    go : (d : ℕ) → closed_in n + d ≡ 32 → (station n (follow 32 n k)).into ≡ None
    go d e = subst (λ b. (station n (follow b n k)).into ≡ None) e (subst (λ x. (station n x).into ≡ None) (sym (follow_more (closed_in n) d n k (h.opens k))) (h.opens k))

-- the same closings
pub follow_same : (n v : Network) → ((j : ℕ) → (station v j).into ≡ (station n j).into) → (b k : ℕ) → follow b v k ≡ follow b n k
follow_same n v e zero k = refl
follow_same n v e (suc b) k = ap (λ o. follow_by o (follow b v) k) (e k) ∙ go (station n k).into (follow_same n v e b)
  where
    go : (o : Option ℕ) → ((j : ℕ) → follow b v j ≡ follow b n j) → follow_by o (follow b v) k ≡ follow_by o (follow b n) k
    go None ih = refl
    go (Some j) ih = ih j

module _ (n : Network) (k : ℕ) (s : Station) where
  -- station k is another, the others are as they were
  here : k < length n.stations → station (with_station n k s) k ≡ s
  here lt = get_or-set_same n.stations k s no_station lt

  there : (j : ℕ) → (j ≡ k → ⊥) → station (with_station n k s) j ≡ station n j
  there j ne = get_or-set_other n.stations k j s no_station ne

  intos : k < length n.stations → s.into ≡ (station n k).into → (j : ℕ) → (station (with_station n k s) j).into ≡ (station n j).into
  intos lt e j = go (cases_eq j k)
    where
      go : (j ≡ k) ⊎ (j ≡ k → ⊥) → (station (with_station n k s) j).into ≡ (station n j).into
      go (inl p) = rw p (ap (λ (x : Station). x.into) (here lt) ∙ e)
      go (inr p) = ap (λ (x : Station). x.into) (there j p)

  count : k < length n.stations → closed_in (with_station n k s) + one (station n k).into ≡ closed_in n + one s.into
  count lt = sum_by-set (λ (x : Station). one x.into) n.stations k s no_station lt

  -- a station that closes as it did
  pub forest_kept : s.into ≡ (station n k).into → Forest n → Forest (with_station n k s)
  forest_kept e h = go (cases_lt k (length n.stations))
    where
      go : (k < length n.stations) ⊎ (length n.stations ≤ k) → Forest (with_station n k s)
      go (inl lt) =
          let same : closed_in (with_station n k s) ≡ closed_in n = omega (arith, count lt, ap one e) in
          record {
            stations = length-set n.stations k s ∙ h.stations;
            opens = λ j. intos lt e _ ∙ ap (λ x. (station n x).into) (ap (λ b. follow b (with_station n k s) j) same ∙ follow_same n (with_station n k s) (intos lt e) (closed_in n) j) ∙ h.opens j;
          }
      go (inr le) = subst (λ ss. Forest (record { stations = ss; orders = n.orders; declared = n.declared })) (sym (set_past n.stations k s le)) h

-- an open station closes into another open one
module _ (n : Network) (k i : ℕ) (e : stays_open k i n ≡ false) (lt : k < length n.stations) where
  abbrev v : Network
  v = closed k i n

  either : (eqb k i ≡ false) × (is_some (station n k).into ≡ false) × (is_some (station n i).into ≡ false)
  either =
      let p = or_parts (eqb k i) (is_some (station n k).into || is_some (station n i).into) e in
      let q = or_parts (is_some (station n k).into) (is_some (station n i).into) p.1 in
      (p.0, q.0, q.1)

  k_open : (station n k).into ≡ None
  k_open = none_of (station n k).into either.1

  i_other : i ≡ k → ⊥
  i_other p = eqb-false k i either.0 (sym p)

  i_open : (station v i).into ≡ None
  i_open = ap (λ (x : Station). x.into) (there n k (with_into (station n k) i) i i_other) ∙ none_of (station n i).into either.2

  k_closed : (station v k).into ≡ Some i
  k_closed = ap (λ (x : Station). x.into) (here n k (with_into (station n k) i) lt)

  others : (j : ℕ) → (j ≡ k → ⊥) → (station v j).into ≡ (station n j).into
  others j ne = ap (λ (x : Station). x.into) (there n k (with_into (station n k) i) j ne)

  -- one closing more leads from an open station to one that is open still
  from_open : (b j : ℕ) → (station n j).into ≡ None → (station v (follow (suc b) v j)).into ≡ None
  from_open b j o = go (cases_eq j k)
    where
      go : (j ≡ k) ⊎ (j ≡ k → ⊥) → (station v (follow (suc b) v j)).into ≡ None
      go (inl p) = subst (λ x. (station v x).into ≡ None) (sym (ap (follow (suc b) v) p ∙ ap (λ x. follow_by x (follow b v) k) k_closed ∙ follow_open b v i i_open)) i_open
      go (inr p) = let q = others j p ∙ o in subst (λ x. (station v x).into ≡ None) (sym (follow_open (suc b) v j q)) q

  one_more : (b j : ℕ) → (station n (follow b n j)).into ≡ None → (station v (follow (suc b) v j)).into ≡ None
  one_more zero j o = from_open zero j o
  one_more (suc b) j o = go (station n j).into refl (one_more b)
    where
      go : (x : Option ℕ) → (station n j).into ≡ x → ((y : ℕ) → (station n (follow b n y)).into ≡ None → (station v (follow (suc b) v y)).into ≡ None) → (station v (follow (suc (suc b)) v j)).into ≡ None
      go None p ih = from_open (suc b) j p
      go (Some y) p ih =
          let ne : j ≡ k → ⊥ = λ q. let z : ◌≡◌ {A = Option ℕ} (Some y) None = sym p ∙ ap (λ x. (station n x).into) q ∙ k_open in let w : ◌≡◌ {A = ℕ} 0 1 = cc in omega arith in
          subst (λ x. (station v x).into ≡ None) (sym (ap (λ x. follow_by x (follow (suc b) v) j) (others j ne ∙ p))) (ih y (subst (λ x. (station n x).into ≡ None) (ap (λ x. follow_by x (follow b n) j) p) o))

  closes : Forest n → Forest v
  closes h =
      let more : closed_in v ≡ suc (closed_in n) = omega (arith, count n k (with_into (station n k) i) lt, ap one k_open) in
      record {
        stations = length-set n.stations k _ ∙ h.stations;
        opens = λ j. subst (λ b. (station v (follow b v j)).into ≡ None) (sym more) (one_more (closed_in n) j (h.opens j));
      }

pub forest_closed : (n : Network) (k i : ℕ) → stays_open k i n ≡ false → Forest n → Forest (closed k i n)
forest_closed n k i e h = go (cases_lt k (length n.stations))
  where
    go : (k < length n.stations) ⊎ (length n.stations ≤ k) → Forest (closed k i n)
    go (inl lt) = closes n k i e lt h
    go (inr le) = subst (λ ss. Forest (record { stations = ss; orders = n.orders; declared = n.declared })) (sym (set_past n.stations k _ le)) h
