-- What one more limit on each queue changes of the calls.
use Rattle.std.proofs.Common.{◌≡◌, ℕ, zero, suc, ◌+◌, ◌<◌, ◌≤◌, max, Bool, true, false, cond, leb, List, [], ◌∷◌, length, get_or, Ok, Err, Option, Result, sym, refl, ap, ◌∙◌, inl, inr, arith}
use Rattle.std.proofs.ByRecursion.{All-get_or}
use Rattle.std.proofs.lemmas.Bool.Decides.{nat_tests}
use Rattle.std.proofs.lemmas.Bool.{cond-true, cond-false, cases_Bool, lt-leb}
use Rattle.elements.specs.declared.entries.Entry.{Entry}
use Rattle.stores.specs.declared.refusals.Refusal.{Refusal}
use Rattle.stores.specs.declared.refusals.Refusal.TheVariants.{AtLimit}
use Rattle.stores.specs.Meaning.{Pair, Fixed, Meaning, WellFormed, AtMost, count_of, reached_height}
use Rattle.stores.specs.Calls.{put_answer, count_answer}
use Rattle.stores.specs.Promises.{Puts, Takes, Melds, Cancels}
use Rattle.quota.specs.Limiting.{added, with_limits, with_limits_fixed, Over}
use Rattle.quota.specs.Formed.{formed_with_limits}

added_at : (ls : List ℕ) (h : ℕ) (pss : List (List Pair)) (q : ℕ) → q < length ls → q < length pss → get_or (added ls h pss) q [] ≡ record { limit = get_or ls q 0; height = h } ∷ get_or pss q []
unfolding added
added_at [] h pss q a b = absurd (omega arith)
added_at (l ∷ ls) h [] q a b = absurd (omega arith)
added_at (l ∷ ls) h (ps ∷ pss) zero a b = refl
added_at (l ∷ ls) h (ps ∷ pss) (suc q) a b = added_at ls h pss q (omega arith) (omega arith)

reached_at_most : (h : ℕ) (ps : List Pair) (n : ℕ) → AtMost h ps → reached_height ps n ≤ h
reached_at_most h [] n a = omega arith
reached_at_most h (p ∷ ps) n a =
    let k = reached_at_most h ps n a.1 in
    let j = a.0 in
    elim (leb p.limit n) as (λ b. cond b (max p.height (reached_height ps n)) (reached_height ps n) ≤ h) [ true ↦ omega arith | false ↦ k ]

-- what a count tells of the queue's number
module _ {T : Type 0} (m : Meaning T) (q : ℕ) where
  counted : (n : ℕ) → Ok n ≡ count_answer m.state q → (q < 32) × (n ≡ count_of m.state q)
  counted n is =
      elim (cases_Bool (leb 32 q)) [
        | inl far ↦ (let k = is ∙ cond-true (leb 32 q) _ _ far in absurd (let z : ◌≡◌ {A = ℕ} 0 1 = cc in omega arith))
        | inr near ↦ (let k = is ∙ cond-false (leb 32 q) _ _ near in (grind (arith, nat_tests), cc))
      ]

  pub not_counted : (f : Refusal) → Err f ≡ count_answer m.state q → Err f ≡ put_answer m q
  not_counted f is =
      elim (cases_Bool (leb 32 q)) [
        | inl far ↦ is ∙ cond-true (leb 32 q) _ _ far ∙ sym (cond-true (leb 32 q) _ _ far)
        | inr near ↦ (let k = is ∙ cond-false (leb 32 q) _ _ near in absurd (let z : ◌≡◌ {A = ℕ} 0 1 = cc in omega arith))
      ]

module _ {T : Type 0} {le : T → T → Bool} {B : Type 0} (m : Meaning T) (ls : List ℕ) (h : ℕ) (o : Over le B m ls h) where
  over_next : {C : Type 0} (n : Meaning T) → C → WellFormed le n → n.fixed ≡ m.fixed → Over le C n ls h
  over_next n c f e = record { below = c; formed = f; own = o.own; above = o.above ∙ ap (λ (x : Fixed). x.height + 1) (sym e); low = o.low }

  -- n is the count of queue q, and b whether its limit is reached
  module _ (q n : ℕ) (b : Bool) (count : Ok n ≡ count_answer m.state q) (test : b ≡ leb (get_or ls q 0) n) where
    here : get_or (added ls (m.fixed.height + 1) m.fixed.pairs) q [] ≡ record { limit = get_or ls q 0; height = m.fixed.height + 1 } ∷ get_or m.fixed.pairs q []
    here = let k = counted m q n count in added_at ls (m.fixed.height + 1) m.fixed.pairs q (omega (arith, o.own, k.0)) (omega (arith, o.formed.limited, k.0))

    at_count : (v : Bool) → b ≡ v → leb (get_or ls q 0) (count_of m.state q) ≡ v
    at_count v e = ap (leb (get_or ls q 0)) (sym (counted m q n count).1) ∙ sym test ∙ e

    -- below the limit, the store below decides
    pub put_answer_open : b ≡ false → put_answer m q ≡ put_answer (with_limits ls m) q
    put_answer_open e = let room = at_count false e in rw (here, room)

    -- at it, this layer's height is the greatest
    pub put_answer_full : b ≡ true → (f : Refusal) → f ≡ AtLimit h → Err f ≡ put_answer (with_limits ls m) q
    put_answer_full e f is =
        let full = at_count true e in
        let k = reached_at_most m.fixed.height (get_or m.fixed.pairs q []) (count_of m.state q) (All-get_or (AtMost m.fixed.height) m.fixed.pairs q [] (omega (arith, o.formed.limited, (counted m q n count).0)) o.formed.heights) in
        let top : h ≡ max (m.fixed.height + 1) (reached_height (get_or m.fixed.pairs q []) (count_of m.state q)) = omega (arith, o.above) in
        ap Err is ∙ rw (lt-leb 32 q (counted m q n count).0, here, full) (ap (λ (j : ℕ). Err (AtLimit j)) top)

-- what the call below promises, the layer promises; m is what the store below means before it, n after
module _ {T : Type 0} {le : T → T → Bool} {B : Type 0} (m n : Meaning T) (ls : List ℕ) (h : ℕ) (o : Over le B m ls h) where
  formed_next : WellFormed le n → n.fixed ≡ m.fixed → WellFormed le (with_limits ls n)
  formed_next f e = formed_with_limits (over_next m ls h o {C = Unit {0}} n tt f e)

  pub puts_over : (q : ℕ) (x : T) (r : Result ℕ Refusal) → put_answer m q ≡ put_answer (with_limits ls m) q → Puts le m q x r n → Puts le (with_limits ls m) q x r (with_limits ls n)
  puts_over q x r same e = record { answer = e.answer ∙ same; after = e.after; fixed = ap (with_limits_fixed ls) e.fixed; held = e.held; formed = formed_next e.formed e.fixed }

  pub takes_over : (q : ℕ) (r : Result (Option (Entry T)) Refusal) → Takes le m q r n → Takes le (with_limits ls m) q r (with_limits ls n)
  takes_over q r e = record { answer = e.answer; after = e.after; fixed = ap (with_limits_fixed ls) e.fixed; held = e.held; formed = formed_next e.formed e.fixed }

  pub melds_over : (a b : ℕ) (r : Result ℕ Refusal) → Melds le m a b r n → Melds le (with_limits ls m) a b r (with_limits ls n)
  melds_over a b r e = record { answer = e.answer; after = e.after; fixed = ap (with_limits_fixed ls) e.fixed; held = e.held; formed = formed_next e.formed e.fixed }

  pub cancels_over : (k : ℕ) (r : Result ℕ Refusal) → Cancels le m k r n → Cancels le (with_limits ls m) k r (with_limits ls n)
  cancels_over k r e = record { answer = e.answer; after = e.after; fixed = ap (with_limits_fixed ls) e.fixed; held = e.held; formed = formed_next e.formed e.fixed }
