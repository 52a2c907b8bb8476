-- First and take, for any form of heap: one entry leaves the queue's heap, and its cell becomes the first idle one.
use Rattle.std.proofs.Common.{◌≡◌, ℕ, ◌+◌, ◌-◌, ◌<◌, ◌≤◌, Bool, cond, eqb, List, ◌∷◌, length, get_or, set, Some, None, Ok, Err, Option, sym, refl, ap, ◌∙◌, subst, arith, length-set}
use Rattle.std.specs.List.{slice_get}
use Rattle.std.proofs.lemmas.Option.{slice_get_read}
use Rattle.std.proofs.lemmas.List.{get_or-set_same, get_or-set_other}
use Rattle.std.proofs.lemmas.Bool.Decides.{nat_tests}
use Rattle.elements.specs.declared.entries.Entry.{Entry}
use Rattle.elements.specs.Order.{stamp_of}
use Rattle.stores.specs.declared.refusals.Refusal.TheVariants.{QueueNumber}
use Rattle.stores.specs.SortedLists.{tally}
use Rattle.stores.specs.Meaning.{bare_fixed}
use Rattle.stores.specs.Calls.{first_answer, front, rest}
use Rattle.stores.specs.Promises.{Takes}
use Rattle.stores.proofs.Answering.{takes_refused, takes_none, first_refused, first_told}
use Rattle.cells.specs.Trees.{Tree, leaf, node, size, uses}
use Rattle.cells.specs.IdleCells.{times}
use Rattle.cells.specs.Forms.{Form, HeapAt, Built, FrontIn, FrontTaken}
use Rattle.cells.specs.Lawful.{Lawful}
use Rattle.cells.specs.Queues.{Sound, no_queue, kept_queue, lists, state_of, meaning_of, with_queue, with_idle}
use Rattle.cells.specs.declared.heads.Queue.{Queue}
use Rattle.cells.specs.declared.heads.Heads.{Heads}
use Rattle.cells.proofs.Trees.{node_at, set_framed}
use Rattle.cells.proofs.IdleCells.{chain_framed}
use Rattle.cells.proofs.Soundness.{formed, at_stored, at_cells, at_size, at_stamps_once, at_root, at_list, at_count, list_none}
use Rattle.cells.proofs.Counting.{kept_near}
use Rattle.cells.proofs.Changing.{Done, done_by, Change, changed}

module _ {T K : Type 0} {le : T → T → Bool} (F : Form le K) {ls : List K} {es : List (Entry T)} where
  -- a heap whose front entry is at its root, with the subtrees l and r
  pub front_root : {a : Option ℕ} (t : Tree (Entry T)) (i : ℕ) (e : Entry T) (l r : Tree (Entry T)) → t ≡ node i e l r → (out : List (Entry T)) → F.list (node i e l r) ≡ e ∷ out → HeapAt F ls es a t → FrontIn F es t i
  front_root {a} t i e l r is out list h =
      let k = (subst (HeapAt F ls es a) is h).stored_at.stored.held in
      record { within = k.0; front = e; others = out; held = k.1; lists = ap F.list is ∙ list }

  -- it is taken out of such a heap: what is left of l and r is `out`
  pub taken_root : {a : Option ℕ} (t : Tree (Entry T)) (i : ℕ) (e : Entry T) (l r : Tree (Entry T)) → t ≡ node i e l r → (out : List (Entry T)) → F.list (node i e l r) ≡ e ∷ out → HeapAt F ls es a t → {ls' : List K} {at : Option ℕ} → Built F ls es out (λ k. uses l k + uses r k) (size l + size r) ls' at → FrontTaken F ls es t ls' i at
  taken_root {a} t i e l r is out list h m =
      let k = (subst (HeapAt F ls es a) is h).stored_at.stored in
      record {
        within = (k.linked.0, k.held.0);
        front = e;
        held = k.held.1;
        tree = m.tree;
        stored_at = m.stored_at;
        lists = ap F.list is ∙ list ∙ ap (λ y. e ∷ y) (sym m.lists);
        cells = λ j. omega (arith, m.cells j, ap (λ y. uses y j) is);
        counts = omega (arith, m.counts, ap size is);
        others = λ j p. m.others j (omega (arith, p, ap (λ y. uses y j) is));
      }

module _ {T K : Type 0} {le : T → T → Bool} (F : Form le K) (lawful : Lawful F) {h : Heads} {ls : List K} {es : List (Entry T)} (s : Sound F h ls es) (q : ℕ) where
  pub first_queue : 32 ≤ q → Err QueueNumber ≡ first_answer (state_of F h ls es) q
  first_queue far = first_refused (state_of F h ls es) q far

  pub take_queue : 32 ≤ q → Takes le (meaning_of F h ls es) q (Err QueueNumber) (meaning_of F h ls es)
  take_queue far = takes_refused (formed F lawful s) q QueueNumber (first_queue far)

  -- old is the queue as it is kept
  module _ (old : Queue) (kept : Ok old ≡ kept_queue h q) where
    near : q < 32
    near = (kept_near h q old kept).0

    is_old : old ≡ get_or h.queues q no_queue
    is_old = (kept_near h q old kept).1

    root_is : (o : Option ℕ) → old.root ≡ o → (get_or h.queues q no_queue).root ≡ o
    root_is o e = ap (λ (y : Queue). y.root) (sym is_old) ∙ e

    pub first_none : old.root ≡ None → Ok None ≡ first_answer (state_of F h ls es) q
    first_none none = first_told (state_of F h ls es) q None near (sym (ap front (list_none F lawful s q near (root_is None none))))

    pub take_none : old.root ≡ None → Takes le (meaning_of F h ls es) q (Ok None) (meaning_of F h ls es)
    take_none none = takes_none (formed F lawful s) q (first_none none)

    -- the queue's heap, whose root is in cell r
    pub heap_at : (r : ℕ) → old.root ≡ Some r → HeapAt F ls es (Some r) (get_or s.trees q leaf)
    heap_at r root = record {
      stored_at = record { at = sym root ∙ ap (λ (y : Queue). y.root) is_old ∙ at_root F lawful s q near; stored = at_stored F lawful s q near };
      cells = λ j. omega (arith, at_cells F lawful s q near j);
      stamps = at_stamps_once F lawful s q near;
      few = omega (arith, at_size F lawful s q near, s.sizes.few_cells);
    }

    pub some_counted : (r : ℕ) → old.root ≡ Some r → 1 ≤ old.count
    some_counted r root = omega (arith, ap (λ (y : Queue). y.count) is_old, at_count F lawful s q near, ap size (node_at (get_or s.trees q leaf) r (heap_at r root).stored_at.at).is)

    -- what is read in the cell i of the front entry is the answer
    pub first_some : {i : ℕ} → FrontIn F es (get_or s.trees q leaf) i → Ok (slice_get es i) ≡ first_answer (state_of F h ls es) q
    first_some {i} f = first_told (state_of F h ls es) q (slice_get es i) near (slice_get_read es (length es) i f.front refl f.within f.held ∙ sym (ap front (at_list F lawful s q near ∙ f.lists)))

    module _ {ls' : List K} {i : ℕ} {r : Option ℕ} (long : length ls' ≡ length ls) (m : FrontTaken F ls es (get_or s.trees q leaf) ls' i r) where
      own_cell : (k : ℕ) → cond (eqb i k) 1 0 + uses m.tree k + times s.idle k ≤ 1
      own_cell k = omega (arith, at_cells F lawful s q near k, m.cells k)

      same : (k : ℕ) → cond (eqb i k) 1 0 + uses m.tree k ≡ 0 → get_or (set ls' i (F.idle h.free)) k F.none ≡ get_or ls k F.none
      same k p = get_or-set_other ls' i k (F.idle h.free) F.none (grind (arith, nat_tests, p)) ∙ m.others k (omega (arith, p, m.cells k))

      take_change : Change F lawful s q near (set ls' i (F.idle h.free)) es (i ∷ s.idle) h.next m.tree
      take_change = record {
        stored = record { linked = set_framed F.link F.none ls' m.tree i (F.idle h.free) (grind (arith, nat_tests, own_cell i)) m.stored_at.stored.linked; held = m.stored_at.stored.held; valid = m.stored_at.stored.valid };
        long = length-set ls' i (F.idle h.free) ∙ long;
        wide = refl;
        links = λ k p. same k (omega (arith, p, m.cells k));
        entries = λ k d p. refl;
        chained = (omega (arith, length-set ls' i (F.idle h.free), long, m.within.0), get_or-set_same ls' i (F.idle h.free) F.none (omega (arith, long, m.within.0)) ∙ ap F.idle s.free, chain_framed F.none F.idle ls (set ls' i (F.idle h.free)) s.idle (omega (arith, length-set ls' i (F.idle h.free), long)) (λ k p. same k (omega (arith, own_cell k, p))) s.chained);
        cells = λ k. omega (arith, m.cells k);
        count = omega (arith, m.counts);
        stamps = λ k. omega (arith, ap (λ y. tally stamp_of y k) m.lists);
        issued = s.issued;
      }

      take_done : Done F (Takes le (meaning_of F h ls es) q (Ok (Some m.front))) (with_queue (with_idle h (Some i) h.next) q r ((get_or h.queues q no_queue).count - 1)) (set ls' i (F.idle h.free)) es
      take_done =
          let c = changed F lawful s q near (set ls' i (F.idle h.free)) es (i ∷ s.idle) h.next m.tree take_change r (Some i) ((get_or h.queues q no_queue).count - 1) m.stored_at.at (omega (arith, at_count F lawful s q near, m.counts)) refl in
          let list = c.list ∙ ap (set (lists F h ls es) q) (sym (ap rest (at_list F lawful s q near ∙ m.lists))) in
          record {
            sound = c.sound;
            effect = record {
              answer = ap Ok (sym (slice_get_read es (length es) i m.front refl m.within.1 m.held)) ∙ first_some (record { within = m.within.1; front = m.front; others = F.list m.tree; held = m.held; lists = m.lists });
              after = λ j. record { lists = list j; next = h.next };
              fixed = ap (λ n. bare_fixed n h.stamps) (length-set ls' i (F.idle h.free) ∙ long);
              held = omega arith;
              formed = formed F lawful c.sound;
            };
          }

      -- o is what is read in cell i, h₁ and ls₁ are what is left once the cell is idle, h₂ the heads in the end
      pub taking : (o : Option (Entry T)) → o ≡ slice_get es i → (h₁ h₂ : Heads) (ls₁ : List K) → h₁ ≡ with_idle h (Some i) h.next → ls₁ ≡ set ls' i (F.idle h.free) → h₂ ≡ with_queue h₁ q r (old.count - 1) → Done F (Takes le (meaning_of F h ls es) q (Ok o)) h₂ ls₁ es
      taking o read h₁ h₂ ls₁ a b c =
          let some : o ≡ Some m.front = read ∙ slice_get_read es (length es) i m.front refl m.within.1 m.held in
          subst (λ y. Done F (Takes le (meaning_of F h ls es) q (Ok y)) h₂ ls₁ es) (sym some) (done_by F (Takes le (meaning_of F h ls es) q (Ok (Some m.front))) (c ∙ (λ j. with_queue (a j) q r ((is_old j).count - 1))) b take_done)
