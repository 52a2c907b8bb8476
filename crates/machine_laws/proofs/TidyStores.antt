-- The machine's stores keep 32 sorted queues with distinct stamps.
use Rattle.std.proofs.Common.{◌≡◌, ℕ, zero, suc, ◌+◌, ◌<◌, ◌≤◌, Bool, true, false, cond, ◌||◌, eqb, ltb, leb, ◌⊎◌, List, [], ◌∷◌, length, set, replicate, Some, None, Ok, Err, sum_by, Option, sym, refl, ap, ◌∙◌, subst, inl, inr, arith}
use Rattle.std.specs.List.{AllByRecursion}
use Rattle.std.proofs.ByRecursion.{All-set}
use Rattle.std.proofs.lemmas.List.{length-set, get_or-set_other}
use Rattle.std.proofs.lemmas.List.Sums.{sum_by-cons}
use Rattle.std.proofs.lemmas.Bool.{cases_eq, cases_lt, lt-leb, le-leb, ne_eqb, eq-eqb}
use Rattle.std.proofs.lemmas.Bool.Decides.{nat_tests}
use Rattle.elements.specs.declared.entries.Entry.{Entry}
use Rattle.elements.specs.Order.{Strict, precedes_by, stamp_of}
use Rattle.stores.specs.declared.refusals.Refusal.TheVariants.{QueueNumber, SameQueue}
use Rattle.stores.specs.SortedLists.{merge, insert, without, tally, Sorted}
use Rattle.stores.specs.Meaning.{State, list_of, count_of, fresh}
use Rattle.stores.specs.Calls.{with_list, put_after, take_after, meld_answer, meld_after, cancel_after, front, rest, found, queue_with}
use Rattle.stores.proofs.Inserting.{sorted_insert}
use Rattle.stores.proofs.Merging.{sorted_merge}
use Rattle.stores.proofs.Removing.{sorted_rest, sorted_without}
use Rattle.machine_laws.specs.Entries.{total_from, total}
use Rattle.machine_laws.proofs.Elements.{all_get}
use Rattle.machine_laws.proofs.Totalling.{stamp_is, total_with, total_put, total_take, total_meld, total_get, found_leaves}

module _ {T : Type 0} (le : T → T → Bool) where
  pub record Tidy (s : State T) : Type 0 where
    pub queues : length s.lists ≡ 32
    pub sorted : AllByRecursion (Sorted (precedes_by le)) s.lists
    pub stamps : (k : ℕ) → total (stamp_is k) s ≤ cond (ltb k s.next) 1 0

tally_sum : {T : Type 0} (k q : ℕ) (xs : List (Entry T)) → tally stamp_of xs k ≡ sum_by (stamp_is k q) xs
tally_sum k q [] = refl
tally_sum k q (x ∷ xs) = omega (arith, tally_sum k q xs, sum_by-cons (stamp_is k q) x xs)

module _ {T : Type 0} (le : T → T → Bool) (law : Strict (precedes_by le) stamp_of) (s : State T) (h : Tidy le s) where
  pub sorted_at : (q : ℕ) → Sorted (precedes_by le) (list_of s q)
  sorted_at q = all_get (Sorted (precedes_by le)) s.lists q [] h.sorted tt

  -- the stamps of one queue, and of two
  one_queue : (q k : ℕ) → tally stamp_of (list_of s q) k ≤ cond (ltb k s.next) 1 0
  one_queue q k = omega (arith, h.stamps k, total_get (stamp_is k) s q, tally_sum k q (list_of s q))

  two_queues : (a b k : ℕ) → a < length s.lists → (a ≡ b → ⊥) → tally stamp_of (list_of s a) k + tally stamp_of (list_of s b) k ≤ cond (ltb k s.next) 1 0
  two_queues a b k la ne =
      let t = with_list s a [] in
      omega (arith, h.stamps k, total_with (stamp_is k) s a [] la, total_get (stamp_is k) t b, ap (sum_by (stamp_is k b)) (get_or-set_other s.lists a b [] [] (λ e. ne (sym e))), tally_sum k a (list_of s a), tally_sum k b (list_of s b))

  at_most_one : (k : ℕ) → cond (ltb k s.next) 1 0 ≤ 1
  at_most_one k = grind (arith, nat_tests)

  tidy_with : (q : ℕ) (ys : List (Entry T)) (n : ℕ) → Sorted (precedes_by le) ys → ((k : ℕ) → total (stamp_is k) (with_list s q ys) ≤ cond (ltb k n) 1 0) → Tidy le (record { lists = set s.lists q ys; next = n })
  tidy_with q ys n o u = record { queues = length-set s.lists q ys ∙ h.queues; sorted = All-set (Sorted (precedes_by le)) s.lists q ys o h.sorted; stamps = u }

  pub tidy_put : (q : ℕ) (x : T) → q < 32 → Tidy le (put_after le s q x (Ok s.next))
  tidy_put q x lt = tidy_with q (insert (precedes_by le) e (list_of s q)) (s.next + 1) (sorted_insert (precedes_by le) stamp_of law e (list_of s q) apart (sorted_at q)) counts
    where
      e : Entry T
      e = record { element = x; stamp = s.next }

      apart : (k : ℕ) → cond (eqb s.next k) 1 0 + tally stamp_of (list_of s q) k ≤ 1
      apart k = grind (arith, nat_tests, one_queue q k)

      counts : (k : ℕ) → total (stamp_is k) (with_list s q (insert (precedes_by le) (record { element = x; stamp = s.next }) (list_of s q))) ≤ cond (ltb k (s.next + 1)) 1 0
      counts k = grind (arith, nat_tests, total_put (stamp_is k) le s q x s.next (omega (arith, h.queues)), h.stamps k)

  pub tidy_take : (q : ℕ) (o : Option (Entry T)) → front (list_of s q) ≡ o → Tidy le (take_after s q (Ok o))
  tidy_take q None p = h
  tidy_take q (Some e) p = tidy_with q (rest (list_of s q)) s.next (sorted_rest (precedes_by le) (list_of s q) (sorted_at q)) (λ k. omega (arith, h.stamps k, total_take (stamp_is k) s q e p))

  tidy_joined : (a b n : ℕ) → a < 32 → b < 32 → (a ≡ b → ⊥) → Tidy le (meld_after le s a b (Ok n))
  tidy_joined a b n la lb ne =
      let joined = merge (precedes_by le) (list_of s a) (list_of s b) in
      record {
        queues = length-set (set s.lists a joined) b [] ∙ length-set s.lists a joined ∙ h.queues;
        sorted = All-set (Sorted (precedes_by le)) (set s.lists a joined) b [] tt (All-set (Sorted (precedes_by le)) s.lists a joined (sorted_merge (precedes_by le) stamp_of law (list_of s a) (list_of s b) (λ k. omega (arith, two_queues a b k (omega (arith, h.queues)) ne, at_most_one k)) (sorted_at a) (sorted_at b)) h.sorted);
        stamps = λ k. omega (arith, h.stamps k, total_meld (stamp_is k) le s a b n (omega (arith, h.queues)) (omega (arith, h.queues)) ne);
      }

  pub tidy_meld : (a b : ℕ) → Tidy le (meld_after le s a b (meld_answer s a b))
  tidy_meld a b = go (cases_lt a 32) (cases_lt b 32) (cases_eq a b)
    where
      by : (x y z : Bool) → leb 32 a ≡ x → leb 32 b ≡ y → eqb a b ≡ z → Tidy le (meld_after le s a b (cond (x || y) (Err QueueNumber) (cond z (Err SameQueue) (Ok (count_of s b))))) → Tidy le (meld_after le s a b (meld_answer s a b))
      by x y z p q r t = subst (λ b3. Tidy le (meld_after le s a b (cond (leb 32 a || leb 32 b) (Err QueueNumber) (cond b3 (Err SameQueue) (Ok (count_of s b)))))) (sym r) (subst (λ b2. Tidy le (meld_after le s a b (cond (leb 32 a || b2) (Err QueueNumber) (cond z (Err SameQueue) (Ok (count_of s b)))))) (sym q) (subst (λ b1. Tidy le (meld_after le s a b (cond (b1 || y) (Err QueueNumber) (cond z (Err SameQueue) (Ok (count_of s b)))))) (sym p) t))

      go : (a < 32) ⊎ (32 ≤ a) → (b < 32) ⊎ (32 ≤ b) → (a ≡ b) ⊎ (a ≡ b → ⊥) → Tidy le (meld_after le s a b (meld_answer s a b))
      go (inr p) q r = by true (leb 32 b) (eqb a b) (le-leb 32 a p) refl refl h
      go (inl p) (inr q) r = by false true (eqb a b) (lt-leb 32 a p) (le-leb 32 b q) refl h
      go (inl p) (inl q) (inl r) = by false false true (lt-leb 32 a p) (lt-leb 32 b q) (eq-eqb a b r) h
      go (inl p) (inl q) (inr r) = by false false false (lt-leb 32 a p) (lt-leb 32 b q) (ne_eqb a b r) (tidy_joined a b (count_of s b) p q r)

  pub tidy_cancel : (k : ℕ) → Tidy le (cancel_after s k (found 0 (queue_with k s.lists 0)))
  tidy_cancel k = go (queue_with k s.lists 0) refl
    where
      go : (o : Option ℕ) → queue_with k s.lists 0 ≡ o → Tidy le (cancel_after s k (found 0 o))
      go None e = h
      go (Some q) e =
          let l = found_leaves s k q e in
          tidy_with q (without stamp_of k (list_of s q)) s.next (sorted_without (precedes_by le) stamp_of law k (list_of s q) (sorted_at q)) (λ j. omega (arith, h.stamps j, l.total (stamp_is j)))

empty : {T : Type 0} (f : ℕ → Entry T → ℕ) (n o : ℕ) → total_from f o (replicate n []) ≡ 0
empty f zero o = refl
empty f (suc n) o = omega (arith, empty f n (o + 1))

all_empty : {T : Type 0} (P : List (Entry T) → Type 0) (n : ℕ) → P [] → AllByRecursion P (replicate n [])
all_empty P zero h = tt
all_empty P (suc n) h = (h, all_empty P n h)

pub tidy_fresh : {T : Type 0} (le : T → T → Bool) → Tidy le fresh
tidy_fresh {T} le = record { queues = refl; sorted = all_empty (Sorted (precedes_by le)) 32 tt; stamps = λ k. omega (arith, empty {T = T} (stamp_is k) 32 0) }
