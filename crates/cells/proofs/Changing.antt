-- One queue's heap changes: what a call owes for it, and what the store then is and means.
use Rattle.std.proofs.Common.{◌≡◌, ℕ, ◌+◌, ◌<◌, ◌≤◌, cond, ltb, List, length, get_or, set, sum_by, Option, sym, ap, ◌∙◌, subst, arith, length-set, Bool}
use Rattle.std.proofs.lemmas.List.{map-set, set-set}
use Rattle.std.proofs.ByRecursion.{All-set}
use Rattle.std.proofs.lemmas.List.Sums.{sum_by-set}
use Rattle.std.specs.List.{AllByRecursion}
use Rattle.elements.specs.declared.entries.Entry.{Entry}
use Rattle.elements.specs.Order.{stamp_of}
use Rattle.stores.specs.SortedLists.{tally}
use Rattle.stores.specs.Meaning.{Meaning, Sizes}
use Rattle.cells.specs.Trees.{Tree, leaf, root, size, uses}
use Rattle.cells.specs.IdleCells.{first, times, Chained}
use Rattle.cells.specs.Forms.{Form, Stored}
use Rattle.cells.specs.Lawful.{Lawful}
use Rattle.cells.specs.Queues.{Sound, queue_of, lists, meaning_of, with_queue, with_idle}
use Rattle.cells.specs.declared.heads.Queue.{Queue}
use Rattle.cells.specs.declared.heads.Heads.{Heads}
use Rattle.cells.proofs.Soundness.{all_framed, leaf_stored, lists_are, within}

-- a call left a store that is sound and of whose meaning E holds
pub record Done {T K : Type 0} {le : T → T → Bool} (F : Form le K) (E : Meaning T → Type 0) (h : Heads) (ls : List K) (es : List (Entry T)) : Type 0 where
  pub sound : Sound F h ls es
  pub effect : E (meaning_of F h ls es)

-- the same of heads and links that are known by equations
pub done_by : {T K : Type 0} {le : T → T → Bool} (F : Form le K) (E : Meaning T → Type 0) {h h' : Heads} {ls ls' : List K} {es : List (Entry T)} → h' ≡ h → ls' ≡ ls → Done F E h ls es → Done F E h' ls' es
done_by F E {h' = h'} {ls = ls} {es = es} p q d = subst (λ x. Done F E h' x es) (sym q) (subst (λ x. Done F E x ls es) (sym p) d)

module _ {T K : Type 0} {le : T → T → Bool} (F : Form le K) (lawful : Lawful F) {h : Heads} {ls : List K} {es : List (Entry T)} (s : Sound F h ls es) (q : ℕ) (near : q < 32) where
  -- the heap of queue q becomes u, the idle cells idle', the next stamp n'
  pub record Change (ls' : List K) (es' : List (Entry T)) (idle' : List ℕ) (n' : ℕ) (u : Tree (Entry T)) : Type 0 where
    pub stored : Stored F ls' es' u
    pub long : length ls' ≡ length ls
    pub wide : length es' ≡ length es
    pub links : (k : ℕ) → uses (get_or s.trees q leaf) k + times s.idle k ≡ 0 → get_or ls' k F.none ≡ get_or ls k F.none
    pub entries : (k : ℕ) (d : Entry T) → uses (get_or s.trees q leaf) k + times s.idle k ≡ 0 → get_or es' k d ≡ get_or es k d
    pub chained : Chained F.none F.idle ls' idle'
    pub cells : (k : ℕ) → uses u k + times idle' k ≡ uses (get_or s.trees q leaf) k + times s.idle k
    pub count : size u + length idle' ≡ size (get_or s.trees q leaf) + length s.idle
    pub stamps : (k : ℕ) → tally stamp_of (F.list u) k + cond (ltb k h.next) 1 0 ≤ tally stamp_of (F.list (get_or s.trees q leaf)) k + cond (ltb k n') 1 0
    pub issued : n' ≤ h.stamps

  pub record Changed (ls' : List K) (es' : List (Entry T)) (u : Tree (Entry T)) (h' : Heads) : Type 0 where
    pub sound : Sound F h' ls' es'
    pub list : lists F h' ls' es' ≡ set (lists F h ls es) q (F.list u)

  module _ (ls' : List K) (es' : List (Entry T)) (idle' : List ℕ) (n' : ℕ) (u : Tree (Entry T)) (c : Change ls' es' idle' n' u) (root' free' : Option ℕ) (count' : ℕ) (root_is : root' ≡ root u) (count-is : count' ≡ size u) (free-is : free' ≡ first idle') where
    -- the cells of the other heaps
    apart : (k : ℕ) → 0 < sum_by (λ x. uses x k) (set s.trees q leaf) → uses (get_or s.trees q leaf) k + times s.idle k ≡ 0
    apart k p = omega (arith, sum_by-set (λ x. uses x k) s.trees q leaf leaf (within F lawful s q near), s.cells k)

    others : AllByRecursion (Stored F ls' es') (set s.trees q leaf)
    others = all_framed F ls ls' es es' (set s.trees q leaf) (omega (arith, c.long)) (omega (arith, c.wide)) (λ k p. c.links k (apart k p)) (λ k d p. c.entries k d (apart k p)) (All-set (Stored F ls es) s.trees q leaf (leaf_stored F lawful) s.stored)

    queue_is : ◌≡◌ {A = Queue} (record { root = root'; count = count' }) (queue_of u)
    queue_is = λ j. record { root = root_is j; count = count-is j }

    changed_sound : Sound F (with_queue (with_idle h free' n') q root' count') ls' es'
    changed_sound = record {
      trees = set s.trees q u;
      idle = idle';
      many = length-set s.trees q u ∙ s.many;
      queues = (λ j. set (s.queues j) q (queue_is j)) ∙ sym (map-set queue_of s.trees q u);
      stored = subst (AllByRecursion (Stored F ls' es')) (set-set s.trees q leaf u) (All-set (Stored F ls' es') (set s.trees q leaf) q u c.stored others);
      free = free-is;
      chained = c.chained;
      cells = λ k. omega (arith, sum_by-set (λ x. uses x k) s.trees q u leaf (within F lawful s q near), s.cells k, c.cells k);
      total = omega (arith, sum_by-set size s.trees q u leaf (within F lawful s q near), s.total, c.count, c.long);
      long = omega (arith, s.long, c.long, c.wide);
      stamps = λ k. omega (arith, sum_by-set (λ x. tally stamp_of (F.list x) k) s.trees q u leaf (within F lawful s q near), s.stamps k, c.stamps k);
      issued = c.issued;
      sizes = subst (λ n. Sizes n h.stamps) (sym c.long) s.sizes;
    }

    pub changed : Changed ls' es' u (with_queue (with_idle h free' n') q root' count')
    unfolding changed_sound
    changed = record {
      sound = changed_sound;
      list = lists_are F lawful changed_sound ∙ map-set F.list s.trees q u ∙ ap (λ x. set x q (F.list u)) (sym (lists_are F lawful s));
    }
