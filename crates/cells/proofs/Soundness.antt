-- What is known of a sound store: its lists, its counts, each queue's heap, and that its meaning is well-formed.
use Rattle.std.proofs.Common.{◌≡◌, ℕ, ◌+◌, ◌<◌, ◌≤◌, Bool, true, false, cond, ltb, List, [], ◌∷◌, map, length, get_or, Some, None, sum_by, sym, refl, ap, ◌∙◌, subst, arith}
use lib.ListN.{length-map}
use Rattle.std.proofs.lemmas.List.{get_or-map}
use Rattle.std.proofs.ByRecursion.{All-get_or}
use Rattle.std.proofs.lemmas.List.Sums.{sum_by-cons, get_or-le-sum_by}
use Rattle.std.specs.List.{AllByRecursion}
use Rattle.elements.specs.declared.entries.Entry.{Entry}
use Rattle.elements.specs.Order.{precedes_by, stamp_of}
use Rattle.stores.specs.SortedLists.{tally, Sorted}
use Rattle.stores.specs.Meaning.{WellFormed, live}
use Rattle.stores.proofs.Answering.{no_heights}
use Rattle.cells.specs.Trees.{Tree, leaf, root, size, uses, tree_at}
use Rattle.cells.specs.IdleCells.{times}
use Rattle.cells.specs.Forms.{Form, Stored}
use Rattle.cells.specs.Lawful.{Lawful}
use Rattle.cells.specs.Queues.{Sound, queue_of, no_queue, lists, state_of, meaning_of}
use Rattle.cells.specs.declared.heads.Queue.{Queue}
use Rattle.cells.specs.declared.heads.Heads.{Heads}
use Rattle.cells.proofs.Trees.{framed, held_framed, read_back, leaf_at}
use Rattle.cells.proofs.IdleCells.{first_idle, no_idle}

pub one_at_most : (b : Bool) → cond b 1 0 ≤ 1
one_at_most true = omega arith
one_at_most false = omega arith

-- a sum over a mapped list
sum_map : {A B : Type 0} (f : B → ℕ) (g : A → B) (h : A → ℕ) → ((a : A) → f (g a) ≡ h a) → (xs : List A) → sum_by f (map g xs) ≡ sum_by h xs
sum_map f g h e [] = refl
sum_map f g h e (x ∷ xs) = omega (arith, sum_by-cons f (g x) (map g xs), sum_by-cons h x xs, sum_map f g h e xs, e x)

module _ {T K : Type 0} {le : T → T → Bool} (F : Form le K) where
  -- trees stay where their cells stay
  pub all_framed : (ls ls' : List K) (es es' : List (Entry T)) (ts : List (Tree (Entry T))) → length ls ≤ length ls' → length es ≤ length es' → ((k : ℕ) → 0 < sum_by (λ t. uses t k) ts → get_or ls' k F.none ≡ get_or ls k F.none) → ((k : ℕ) (d : Entry T) → 0 < sum_by (λ t. uses t k) ts → get_or es' k d ≡ get_or es k d) → AllByRecursion (Stored F ls es) ts → AllByRecursion (Stored F ls' es') ts
  all_framed ls ls' es es' [] long wide same alike h = tt
  all_framed ls ls' es es' (t ∷ ts) long wide same alike h = (
    record {
      linked = framed F.link F.none ls ls' t long (λ k u. same k (omega (arith, sum_by-cons (λ x. uses x k) t ts))) h.0.linked;
      held = held_framed es es' t wide (λ k d u. alike k d (omega (arith, sum_by-cons (λ x. uses x k) t ts))) h.0.held;
      valid = h.0.valid;
    },
    all_framed ls ls' es es' ts long wide (λ k u. same k (omega (arith, sum_by-cons (λ x. uses x k) t ts))) (λ k d u. alike k d (omega (arith, sum_by-cons (λ x. uses x k) t ts))) h.1,
  )

  module _ (lawful : Lawful F) where
    pub leaf_stored : {ls : List K} {es : List (Entry T)} → Stored F ls es leaf
    leaf_stored = record { linked = tt; held = tt; valid = lawful.valid_leaf }

    pub lists_read : (ls : List K) (es : List (Entry T)) (n : ℕ) (ts : List (Tree (Entry T))) → sum_by size ts ≤ n → AllByRecursion (Stored F ls es) ts → map (λ (q : Queue). F.list (tree_at F.left F.right F.none ls es n q.root)) (map queue_of ts) ≡ map F.list ts
    lists_read ls es n [] few h = refl
    lists_read ls es n (t ∷ ts) few h =
        let sum = sum_by-cons size t ts in
        ap (λ x. F.list x ∷ map (λ (q : Queue). F.list (tree_at F.left F.right F.none ls es n q.root)) (map queue_of ts)) (read_back F.left F.right F.link F.none lawful.left_is lawful.right_is ls es n t (omega (arith, sum)) h.0.linked h.0.held)
        ∙ ap (λ x. F.list t ∷ x) (lists_read ls es n ts (omega (arith, sum)) h.1)

    all_sorted : (ls : List K) (es : List (Entry T)) (ts : List (Tree (Entry T))) → ((k : ℕ) → sum_by (λ t. tally stamp_of (F.list t) k) ts ≤ 1) → AllByRecursion (Stored F ls es) ts → AllByRecursion (Sorted (precedes_by le)) (map F.list ts)
    all_sorted ls es [] once h = tt
    all_sorted ls es (t ∷ ts) once h = (
      lawful.sorted t (λ k. omega (arith, once k, sum_by-cons (λ x. tally stamp_of (F.list x) k) t ts)) h.0.valid,
      all_sorted ls es ts (λ k. omega (arith, once k, sum_by-cons (λ x. tally stamp_of (F.list x) k) t ts)) h.1,
    )

    module _ {h : Heads} {ls : List K} {es : List (Entry T)} (s : Sound F h ls es) where
      pub lists_are : lists F h ls es ≡ map F.list s.trees
      lists_are = ap (map (λ (q : Queue). F.list (tree_at F.left F.right F.none ls es (length ls) q.root))) s.queues ∙ lists_read ls es (length ls) s.trees (omega (arith, s.total)) s.stored

      live_is : live (state_of F h ls es) ≡ sum_by size s.trees
      live_is = ap (sum_by length) lists_are ∙ sum_map length F.list size lawful.list_long s.trees

      pub formed : WellFormed le (meaning_of F h ls es)
      formed = record {
        queues = ap length lists_are ∙ length-map s.trees F.list ∙ s.many;
        sorted = subst (AllByRecursion (Sorted (precedes_by le))) (sym lists_are) (all_sorted ls es s.trees (λ k. omega (arith, s.stamps k, one_at_most (ltb k h.next))) s.stored);
        stamps = λ k. subst (λ n. n ≤ cond (ltb k h.next) 1 0) (sym (ap (sum_by (λ xs. tally stamp_of xs k)) lists_are ∙ sum_map (λ xs. tally stamp_of xs k) F.list (λ t. tally stamp_of (F.list t) k) (λ t. refl) s.trees)) (s.stamps k);
        issued = s.issued;
        stored = omega (arith, live_is, s.total);
        idle = λ _. refl;
        limited = refl;
        heights = no_heights 0;
        sizes = s.sizes;
        low = omega arith;
      }

      -- all cells are in use just where none is idle
      pub full : h.free ≡ None → live (state_of F h ls es) ≡ length ls
      full e = omega (arith, live_is, s.total, no_idle s.idle (sym e ∙ s.free))

      pub not_full : (i : ℕ) → h.free ≡ Some i → live (state_of F h ls es) ≡ length ls → ⊥
      not_full i e f = omega (arith, f, live_is, s.total, ap length (first_idle s.idle i (sym e ∙ s.free)).1)

      -- what is known of queue q, whose heap is the q-th tree
      module _ (q : ℕ) (near : q < 32) where
        pub within : q < length s.trees
        within = omega (arith, s.many)

        pub at_stored : Stored F ls es (get_or s.trees q leaf)
        at_stored = All-get_or (Stored F ls es) s.trees q leaf within s.stored

        pub at_cells : (k : ℕ) → uses (get_or s.trees q leaf) k + times s.idle k ≤ 1
        at_cells k = omega (arith, s.cells k, get_or-le-sum_by (λ x. uses x k) s.trees q leaf within)

        pub at_size : size (get_or s.trees q leaf) + length s.idle ≤ length ls
        at_size = omega (arith, s.total, get_or-le-sum_by size s.trees q leaf within)

        pub at_stamps : (k : ℕ) → tally stamp_of (F.list (get_or s.trees q leaf)) k ≤ cond (ltb k h.next) 1 0
        at_stamps k = omega (arith, s.stamps k, get_or-le-sum_by (λ x. tally stamp_of (F.list x) k) s.trees q leaf within)

        pub at_stamps_once : (k : ℕ) → tally stamp_of (F.list (get_or s.trees q leaf)) k ≤ 1
        at_stamps_once k = omega (arith, at_stamps k, one_at_most (ltb k h.next))

        at_queue : get_or h.queues q no_queue ≡ queue_of (get_or s.trees q leaf)
        at_queue = ap (λ x. get_or x q no_queue) s.queues ∙ get_or-map queue_of s.trees q leaf no_queue within

        pub at_root : (get_or h.queues q no_queue).root ≡ root (get_or s.trees q leaf)
        at_root = ap (λ (x : Queue). x.root) at_queue

        pub at_count : (get_or h.queues q no_queue).count ≡ size (get_or s.trees q leaf)
        at_count = ap (λ (x : Queue). x.count) at_queue

        pub at_list : get_or (lists F h ls es) q [] ≡ F.list (get_or s.trees q leaf)
        at_list = ap (λ x. get_or x q []) lists_are ∙ get_or-map F.list s.trees q leaf [] within

        -- the kept number is the queue's
        pub counted : (get_or h.queues q no_queue).count ≡ length (get_or (lists F h ls es) q [])
        counted = at_count ∙ sym (lawful.list_long (get_or s.trees q leaf)) ∙ sym (ap length at_list)

        pub few : (get_or h.queues q no_queue).count ≤ 4096
        few = omega (arith, at_count, at_size, s.sizes.few_cells)

        pub list_none : (get_or h.queues q no_queue).root ≡ None → get_or (lists F h ls es) q [] ≡ []
        list_none e = at_list ∙ ap F.list (leaf_at (get_or s.trees q leaf) (sym e ∙ at_root)) ∙ lawful.list_leaf
