-- Meld, for any form of heap: the heaps of two queues become one, and the second queue is empty.
use Rattle.std.proofs.Common.{◌≡◌, ℕ, ◌+◌, ◌<◌, ◌≤◌, ltb, List, [], map, length, get_or, set, None, Ok, Err, sum_by, Option, sym, refl, ap, ◌∙◌, subst, arith, length-set, Bool}
use Rattle.std.proofs.lemmas.List.{get_or-set_other, map-set, set-set, set_comm}
use Rattle.std.proofs.ByRecursion.{All-set}
use Rattle.std.proofs.lemmas.List.Sums.{sum_by-set}
use Rattle.std.specs.List.{AllByRecursion}
use Rattle.elements.specs.declared.entries.Entry.{Entry}
use Rattle.elements.specs.Order.{precedes_by, stamp_of}
use Rattle.stores.specs.declared.refusals.Refusal.TheVariants.{QueueNumber, SameQueue}
use Rattle.stores.specs.SortedLists.{merge, tally}
use Rattle.stores.specs.Meaning.{Sizes, list_of, bare_fixed}
use Rattle.stores.specs.Promises.{Melds}
use Rattle.stores.proofs.Merging.{tally-merge}
use Rattle.stores.proofs.Answering.{melds_refused, meld_refused_into, meld_refused_from, meld_refused_same, meld_told}
use Rattle.cells.specs.Trees.{Tree, leaf, size, uses}
use Rattle.cells.specs.Forms.{Form, Stored, Meldable, Melded}
use Rattle.cells.specs.Lawful.{Lawful}
use Rattle.cells.specs.Queues.{Sound, queue_of, no_queue, kept_queue, lists, state_of, meaning_of, with_queue}
use Rattle.cells.specs.declared.heads.Queue.{Queue}
use Rattle.cells.specs.declared.heads.Heads.{Heads}
use Rattle.cells.proofs.IdleCells.{chain_framed}
use Rattle.cells.proofs.Soundness.{one_at_most, all_framed, leaf_stored, lists_are, formed, at_stored, at_root, at_list, at_count, counted}
use Rattle.cells.proofs.Counting.{kept_near}
use Rattle.cells.proofs.Changing.{Done, done_by}

module _ {T K : Type 0} {le : T → T → Bool} (F : Form le K) (lawful : Lawful F) {h : Heads} {ls : List K} {es : List (Entry T)} (s : Sound F h ls es) (a b : ℕ) where
  pub meld_into : 32 ≤ a → Melds le (meaning_of F h ls es) a b (Err QueueNumber) (meaning_of F h ls es)
  meld_into far = melds_refused (formed F lawful s) a b QueueNumber (meld_refused_into (state_of F h ls es) a b far)

  -- x is queue a as it is kept
  module _ (x : Queue) (x-kept : Ok x ≡ kept_queue h a) where
    near-a : a < 32
    near-a = (kept_near h a x x-kept).0

    pub meld_from : 32 ≤ b → Melds le (meaning_of F h ls es) a b (Err QueueNumber) (meaning_of F h ls es)
    meld_from far = melds_refused (formed F lawful s) a b QueueNumber (meld_refused_from (state_of F h ls es) a b near-a far)

    -- and y queue b
    module _ (y : Queue) (y-kept : Ok y ≡ kept_queue h b) where
      near-b : b < 32
      near-b = (kept_near h b y y-kept).0

      pub meld_same : a ≡ b → Melds le (meaning_of F h ls es) a b (Err SameQueue) (meaning_of F h ls es)
      meld_same e = melds_refused (formed F lawful s) a b SameQueue (meld_refused_same (state_of F h ls es) a b near-a near-b e)

      module _ (differ : a ≡ b → ⊥) where
        in_a : a < length s.trees
        in_a = omega (arith, near-a, s.many)

        in_b : (t : Tree (Entry T)) → b < length (set s.trees a t)
        in_b t = omega (arith, near-b, s.many, length-set s.trees a t)

        -- a sum over the trees without the two
        without_both : (f : Tree (Entry T) → ℕ) → f leaf ≡ 0 → sum_by f (set (set s.trees a leaf) b leaf) + f (get_or s.trees a leaf) + f (get_or s.trees b leaf) ≡ sum_by f s.trees
        without_both f z = omega (arith, z, sum_by-set f s.trees a leaf leaf in_a, sum_by-set f (set s.trees a leaf) b leaf leaf (in_b leaf), ap f (get_or-set_other s.trees a b leaf leaf (λ e. differ (sym e))))

        none_counted : (k : ℕ) → tally stamp_of (F.list leaf) k ≡ 0
        none_counted k = ap (λ x. tally stamp_of x k) lawful.list_leaf

        pub meldable : Meldable F ls es x.root y.root (get_or s.trees a leaf) (get_or s.trees b leaf)
        meldable = record {
          one = record { at = ap (λ (z : Queue). z.root) (kept_near h a x x-kept).1 ∙ at_root F lawful s a near-a; stored = at_stored F lawful s a near-a };
          two = record { at = ap (λ (z : Queue). z.root) (kept_near h b y y-kept).1 ∙ at_root F lawful s b near-b; stored = at_stored F lawful s b near-b };
          cells = λ k. omega (arith, without_both (λ x. uses x k) refl, s.cells k);
          stamps = λ k. omega (arith, without_both (λ x. tally stamp_of (F.list x) k) (none_counted k), s.stamps k, one_at_most (ltb k h.next));
          few = omega (arith, without_both size refl, s.total, s.sizes.few_cells);
        }

        pub counts_few : (get_or h.queues a no_queue).count + (get_or h.queues b no_queue).count ≤ 4096
        counts_few = omega (arith, at_count F lawful s a near-a, at_count F lawful s b near-b, without_both size refl, s.total, s.sizes.few_cells)

        module _ (ls' : List K) (r : Option ℕ) (long : length ls' ≡ length ls) (m : Melded F ls es (get_or s.trees a leaf) (get_or s.trees b leaf) ls' r) where
          sum_after : (f : Tree (Entry T) → ℕ) → f leaf ≡ 0 → f m.tree ≡ f (get_or s.trees a leaf) + f (get_or s.trees b leaf) → sum_by f (set (set s.trees a m.tree) b leaf) ≡ sum_by f s.trees
          sum_after f z e = omega (arith, z, e, sum_by-set f s.trees a m.tree leaf in_a, sum_by-set f (set s.trees a m.tree) b leaf leaf (in_b m.tree), ap f (get_or-set_other s.trees a b m.tree leaf (λ z. differ (sym z))))

          others : AllByRecursion (Stored F ls' es) (set (set s.trees a leaf) b leaf)
          others = all_framed F ls ls' es es (set (set s.trees a leaf) b leaf) (omega (arith, long)) (omega arith) (λ k p. m.others k (omega (arith, without_both (λ x. uses x k) refl, s.cells k, p))) (λ k d p. refl) (All-set (Stored F ls es) (set s.trees a leaf) b leaf (leaf_stored F lawful) (All-set (Stored F ls es) s.trees a leaf (leaf_stored F lawful) s.stored))

          placed : set (set (set s.trees a leaf) b leaf) a m.tree ≡ set (set s.trees a m.tree) b leaf
          placed = sym (set_comm (set s.trees a leaf) a b m.tree leaf differ) ∙ ap (λ x. set x b leaf) (set-set s.trees a leaf m.tree)

          queue_is : ◌≡◌ {A = Queue} (record { root = r; count = (get_or h.queues a no_queue).count + (get_or h.queues b no_queue).count }) (queue_of m.tree)
          queue_is = let sum : (get_or h.queues a no_queue).count + (get_or h.queues b no_queue).count ≡ size m.tree = omega (arith, at_count F lawful s a near-a, at_count F lawful s b near-b, m.counts) in λ j. record { root = m.stored_at.at j; count = sum j }

          abbrev after : Heads
          after = with_queue (with_queue h a r ((get_or h.queues a no_queue).count + (get_or h.queues b no_queue).count)) b None 0

          melded_sound : Sound F after ls' es
          melded_sound = record {
            trees = set (set s.trees a m.tree) b leaf;
            idle = s.idle;
            many = length-set (set s.trees a m.tree) b leaf ∙ length-set s.trees a m.tree ∙ s.many;
            queues = (λ j. set (set (s.queues j) a (queue_is j)) b no_queue) ∙ ap (λ x. set x b no_queue) (sym (map-set queue_of s.trees a m.tree)) ∙ sym (map-set queue_of (set s.trees a m.tree) b leaf);
            stored = subst (AllByRecursion (Stored F ls' es)) placed (All-set (Stored F ls' es) (set (set s.trees a leaf) b leaf) a m.tree m.stored_at.stored others);
            free = s.free;
            chained = chain_framed F.none F.idle ls ls' s.idle (omega (arith, long)) (λ k p. m.others k (omega (arith, without_both (λ x. uses x k) refl, s.cells k, p))) s.chained;
            cells = λ k. omega (arith, s.cells k, sum_after (λ x. uses x k) refl (m.cells k));
            total = omega (arith, s.total, long, sum_after size refl m.counts);
            long = omega (arith, s.long, long);
            stamps = λ k. omega (arith, s.stamps k, sum_after (λ x. tally stamp_of (F.list x) k) (none_counted k) (ap (λ y. tally stamp_of y k) m.lists ∙ tally-merge (precedes_by le) stamp_of (F.list (get_or s.trees a leaf)) (F.list (get_or s.trees b leaf)) k));
            issued = s.issued;
            sizes = subst (λ n. Sizes n h.stamps) (sym long) s.sizes;
          }

          melded_lists : lists F after ls' es ≡ set (set (lists F h ls es) a (merge (precedes_by le) (list_of (state_of F h ls es) a) (list_of (state_of F h ls es) b))) b []
          unfolding melded_sound
          melded_lists =
              lists_are F lawful melded_sound ∙ map-set F.list (set s.trees a m.tree) b leaf ∙ ap (set (map F.list (set s.trees a m.tree)) b) lawful.list_leaf
              ∙ ap (λ x. set x b []) (map-set F.list s.trees a m.tree ∙ ap (λ x. set x a (F.list m.tree)) (sym (lists_are F lawful s)) ∙ ap (set (lists F h ls es) a) (m.lists ∙ ap (λ x. merge (precedes_by le) x (F.list (get_or s.trees b leaf))) (sym (at_list F lawful s a near-a)) ∙ ap (merge (precedes_by le) (list_of (state_of F h ls es) a)) (sym (at_list F lawful s b near-b))))

          -- n is the answer and h₂ the heads in the end
          pub melding : (n : ℕ) → n ≡ (get_or h.queues b no_queue).count → (h₂ : Heads) → h₂ ≡ after → Done F (Melds le (meaning_of F h ls es) a b (Ok n)) h₂ ls' es
          melding n n-is h₂ e = done_by F (Melds le (meaning_of F h ls es) a b (Ok n)) e refl (record {
            sound = melded_sound;
            effect = record {
              answer = meld_told (state_of F h ls es) a b n near-a near-b differ (n-is ∙ counted F lawful s b near-b);
              after = λ j. record { lists = melded_lists j; next = h.next };
              fixed = ap (λ k. bare_fixed k h.stamps) long;
              held = omega arith;
              formed = formed F lawful melded_sound;
            };
          })
