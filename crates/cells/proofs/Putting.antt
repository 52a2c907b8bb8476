-- Put, for any form of heap: the first idle cell becomes a heap of its own, which is melded with the queue's.
use Rattle.std.proofs.Common.{◌≡◌, ℕ, ◌+◌, ◌<◌, ◌≤◌, cond, eqb, List, [], ◌∷◌, length, get_or, set, Some, None, Ok, Err, Option, sym, refl, ap, ◌∙◌, subst, arith, length-set, Bool}
use Rattle.std.proofs.lemmas.List.{get_or-set_same, get_or-set_other}
use Rattle.std.proofs.lemmas.Bool.Decides.{nat_tests}
use Rattle.elements.specs.declared.entries.Entry.{Entry}
use Rattle.elements.specs.Order.{precedes_by, stamp_of}
use Rattle.stores.specs.declared.refusals.Refusal.TheVariants.{QueueNumber, NoCell, NoStamp}
use Rattle.stores.specs.SortedLists.{merge, tally}
use Rattle.stores.specs.Meaning.{count_of, bare_fixed}
use Rattle.stores.specs.Promises.{Puts}
use Rattle.stores.proofs.Merging.{tally-merge}
use Rattle.stores.proofs.Answering.{unlimited, puts_refused, put_refused_queue, put_refused_cell, put_refused_stamp, put_told}
use Rattle.cells.specs.Trees.{Tree, leaf, node, uses}
use Rattle.cells.specs.IdleCells.{first, times, Chained}
use Rattle.cells.specs.Forms.{Form, Meldable, Melded}
use Rattle.cells.specs.Lawful.{Lawful}
use Rattle.cells.specs.Queues.{Sound, no_queue, kept_queue, lists, state_of, meaning_of, with_queue, with_idle}
use Rattle.cells.specs.declared.heads.Queue.{Queue}
use Rattle.cells.specs.declared.heads.Heads.{Heads}
use Rattle.cells.proofs.Trees.{held_framed, set_framed}
use Rattle.cells.proofs.IdleCells.{first_idle, chain_framed}
use Rattle.cells.proofs.Soundness.{formed, full, not_full, at_stored, at_cells, at_size, at_stamps, at_root, at_list, at_count, few}
use Rattle.cells.proofs.Counting.{kept_near}
use Rattle.cells.proofs.Changing.{Done, done_by, Change, changed}

module _ {T K : Type 0} {le : T → T → Bool} (F : Form le K) (lawful : Lawful F) {h : Heads} {ls : List K} {es : List (Entry T)} (s : Sound F h ls es) (q : ℕ) (x : T) where
  pub put_queue : 32 ≤ q → Puts le (meaning_of F h ls es) q x (Err QueueNumber) (meaning_of F h ls es)
  put_queue far = puts_refused (formed F lawful s) q x QueueNumber (put_refused_queue (meaning_of F h ls es) q far)

  -- old is the queue as it is kept
  module _ (old : Queue) (kept : Ok old ≡ kept_queue h q) where
    near : q < 32
    near = (kept_near h q old kept).0

    is_old : old ≡ get_or h.queues q no_queue
    is_old = (kept_near h q old kept).1

    pub old_few : old.count ≤ 4096
    old_few = omega (arith, ap (λ (y : Queue). y.count) is_old, few F lawful s q near)

    pub put_cell : h.free ≡ None → Puts le (meaning_of F h ls es) q x (Err NoCell) (meaning_of F h ls es)
    put_cell none = puts_refused (formed F lawful s) q x NoCell (put_refused_cell (meaning_of F h ls es) q near (unlimited (length ls) h.stamps q (count_of (state_of F h ls es) q)) (omega (arith, full F lawful s none)))

    module _ (i : ℕ) (free : h.free ≡ Some i) where
      pub put_stamp : h.next ≡ h.stamps → Puts le (meaning_of F h ls es) q x (Err NoStamp) (meaning_of F h ls es)
      put_stamp spent = puts_refused (formed F lawful s) q x NoStamp (put_refused_stamp (meaning_of F h ls es) q near (unlimited (length ls) h.stamps q (count_of (state_of F h ls es) q)) (λ e. not_full F lawful s i free (omega (arith, e))) spent)

      module _ (room : h.next ≡ h.stamps → ⊥) where
        abbrev entry : Entry T
        entry = record { element = x; stamp = h.next }

        -- i is the first idle cell, and is the others
        module _ (is : List ℕ) (idle_is : s.idle ≡ i ∷ is) where
          own_cell : (k : ℕ) → uses (get_or s.trees q leaf) k + (cond (eqb i k) 1 0 + times is k) ≤ 1
          own_cell k = omega (arith, at_cells F lawful s q near k, ap (λ y. times y k) idle_is)

          idle_cell : i < length ls
          idle_cell = (subst (Chained F.none F.idle ls) idle_is s.chained).0

          put_meldable : Meldable F (set ls i (F.link leaf leaf)) (set es i entry) (Some i) (get_or h.queues q no_queue).root (node i entry leaf leaf) (get_or s.trees q leaf)
          put_meldable = record {
            one = record {
              at = refl;
              stored = record {
                linked = (omega (arith, length-set ls i (F.link leaf leaf), idle_cell), get_or-set_same ls i (F.link leaf leaf) F.none idle_cell, tt, tt);
                held = (omega (arith, length-set es i entry, idle_cell, s.long), sym (get_or-set_same es i entry entry (omega (arith, idle_cell, s.long))), tt, tt);
                valid = lawful.valid_one i entry;
              };
            };
            two = record {
              at = at_root F lawful s q near;
              stored = record {
                linked = set_framed F.link F.none ls (get_or s.trees q leaf) i (F.link leaf leaf) (grind (arith, nat_tests, own_cell i)) (at_stored F lawful s q near).linked;
                held = held_framed es (set es i entry) (get_or s.trees q leaf) (omega (arith, length-set es i entry)) (λ k d u. get_or-set_other es i k entry d (λ same. clash k u same)) (at_stored F lawful s q near).held;
                valid = (at_stored F lawful s q near).valid;
              };
            };
            cells = λ k. omega (arith, own_cell k);
            stamps = λ k. grind (arith, nat_tests, at_stamps F lawful s q near k, ap (λ y. tally stamp_of y k) (lawful.list_one i entry));
            few = omega (arith, at_size F lawful s q near, ap length idle_is, s.sizes.few_cells);
          }
            where
              clash : (k : ℕ) → 0 < uses (get_or s.trees q leaf) k → k ≡ i → ⊥
              clash k u same = grind (arith, nat_tests, own_cell k, u, same)

          module _ (ls' : List K) (r : Option ℕ) (long : length ls' ≡ length ls) (m : Melded F (set ls i (F.link leaf leaf)) (set es i entry) (node i entry leaf leaf) (get_or s.trees q leaf) ls' r) where
            apart : (k : ℕ) → uses (get_or s.trees q leaf) k + cond (eqb i k) 1 0 ≡ 0 → k ≡ i → ⊥
            apart k p z = grind (arith, nat_tests, p, z)

            same : (k : ℕ) → uses (get_or s.trees q leaf) k + cond (eqb i k) 1 0 ≡ 0 → get_or ls' k F.none ≡ get_or ls k F.none
            same k p = m.others k (omega (arith, p)) ∙ get_or-set_other ls i k (F.link leaf leaf) F.none (apart k p)

            put_change : Change F lawful s q near ls' (set es i entry) is (h.next + 1) m.tree
            put_change = record {
              stored = m.stored_at.stored;
              long = long;
              wide = length-set es i entry;
              links = λ k p. same k (omega (arith, p, ap (λ y. times y k) idle_is));
              entries = λ k d p. get_or-set_other es i k entry d (λ z. apart k (omega (arith, p, ap (λ y. times y k) idle_is)) z);
              chained = chain_framed F.none F.idle ls ls' is (omega (arith, long)) (λ k p. same k (omega (arith, own_cell k, p))) (subst (Chained F.none F.idle ls) idle_is s.chained).2;
              cells = λ k. omega (arith, m.cells k, ap (λ y. times y k) idle_is);
              count = omega (arith, m.counts, ap length idle_is);
              stamps = λ k. grind (arith, nat_tests, ap (λ y. tally stamp_of y k) m.lists, tally-merge (precedes_by le) stamp_of (F.list (node i entry leaf leaf)) (F.list (get_or s.trees q leaf)) k, ap (λ y. tally stamp_of y k) (lawful.list_one i entry));
              issued = omega (arith, s.issued, room);
            }

            put_done : Done F (Puts le (meaning_of F h ls es) q x (Ok h.next)) (with_queue (with_idle h (F.right (get_or ls i F.none)) (h.next + 1)) q r ((get_or h.queues q no_queue).count + 1)) ls' (set es i entry)
            put_done =
                let c = changed F lawful s q near ls' (set es i entry) is (h.next + 1) m.tree put_change r (F.right (get_or ls i F.none)) ((get_or h.queues q no_queue).count + 1) m.stored_at.at (omega (arith, at_count F lawful s q near, m.counts)) (ap F.right (subst (Chained F.none F.idle ls) idle_is s.chained).1 ∙ lawful.next_is (first is)) in
                let list = c.list ∙ ap (set (lists F h ls es) q) (m.lists ∙ ap (λ y. merge (precedes_by le) y (F.list (get_or s.trees q leaf))) (lawful.list_one i entry) ∙ ap (merge (precedes_by le) (entry ∷ [])) (sym (at_list F lawful s q near))) in
                record {
                  sound = c.sound;
                  effect = record {
                    answer = put_told (meaning_of F h ls es) q near (unlimited (length ls) h.stamps q (count_of (state_of F h ls es) q)) (λ e. not_full F lawful s i free (omega (arith, e))) h.next room refl;
                    after = λ j. record { lists = list j; next = h.next + 1 };
                    fixed = ap (λ n. bare_fixed n h.stamps) long;
                    held = refl;
                    formed = formed F lawful c.sound;
                  };
                }

        -- ls₁ and es₁ are the slices once the idle cell is taken, h₁ the heads: what the meld needs and what it comes to
        pub record Put (h₁ : Heads) (ls₁ : List K) (es₁ : List (Entry T)) : Type 0 where
          pub meldable : (u : Tree (Entry T)) × (t : Tree (Entry T)) × Meldable F ls₁ es₁ (Some i) old.root u t
          pub done : (ls₂ : List K) (r : Option ℕ) → length ls₂ ≡ length ls₁ → Melded F ls₁ es₁ meldable.0 meldable.1 ls₂ r → (h₂ : Heads) → h₂ ≡ with_queue h₁ q r (old.count + 1) → Done F (Puts le (meaning_of F h ls es) q x (Ok h.next)) h₂ ls₂ es₁

        pub put_inside : (i < length ls) × (i < length es)
        put_inside = let p = first_idle s.idle i (sym free ∙ s.free) in (idle_cell p.0 p.1, omega (arith, idle_cell p.0 p.1, s.long))

        putting_in : Put (with_idle h (F.right (get_or ls i F.none)) (h.next + 1)) (set ls i (F.link leaf leaf)) (set es i entry)
        putting_in =
            let p = first_idle s.idle i (sym free ∙ s.free) in
            record {
              meldable = (node i entry leaf leaf, get_or s.trees q leaf, subst (λ (y : Queue). Meldable F (set ls i (F.link leaf leaf)) (set es i entry) (Some i) y.root (node i entry leaf leaf) (get_or s.trees q leaf)) (sym is_old) (put_meldable p.0 p.1));
              done = λ ls₂ r long m h₂ e. done_by F (Puts le (meaning_of F h ls es) q x (Ok h.next)) (e ∙ ap (λ (y : Queue). with_queue (with_idle h (F.right (get_or ls i F.none)) (h.next + 1)) q r (y.count + 1)) is_old) refl (put_done p.0 p.1 ls₂ r (long ∙ length-set ls i (F.link leaf leaf)) m);
            }

        pub putting : (h₁ : Heads) (ls₁ : List K) (es₁ : List (Entry T)) → h₁ ≡ with_idle h (F.right (get_or ls i F.none)) (h.next + 1) → ls₁ ≡ set ls i (F.link leaf leaf) → es₁ ≡ set es i entry → Put h₁ ls₁ es₁
        putting h₁ ls₁ es₁ a b c = subst (λ y. Put h₁ ls₁ y) (sym c) (subst (λ y. Put h₁ y (set es i entry)) (sym b) (subst (λ y. Put y (set ls i (F.link leaf leaf)) (set es i entry)) (sym a) putting_in))
