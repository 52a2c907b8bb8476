-- The lists of all queues, as cells are filled, emptied and moved.
use Rattle.std.proofs.Common.{◌≡◌, ℕ, ◌<◌, ◌≤◌, Bool, List, [], map, length, get_or, set, replicate, Some, None, sym, ap, ◌∙◌}
use Rattle.std.specs.List.{HoldsAt}
use Rattle.elements.specs.declared.entries.Entry.{Entry}
use Rattle.elements.specs.Order.{Laws, precedes_by}
use Rattle.stores.specs.SortedLists.{merge, insert}
use Rattle.records.specs.declared.cells.Record.{Record}
use Rattle.records.specs.Cells.{Cell, moved, queue_of, lists_of, stamped, Holds}
use Rattle.records.proofs.Queues.{enters_own, enters_no_other, queue_clear, queue_fill, queue_drop, queue_moved_from, queue_moved_other, queue_moved_into}
use Rattle.records.proofs.Numbers.{get_by_queue, set_by_queue, set_two_by_queue, alike_by_queue}

module _ {T : Type 0} (le : T → T → Bool) where
  pub list_is : (cs : List (Cell T)) (q : ℕ) → q < 32 → get_or (lists_of le cs) q [] ≡ queue_of le q cs
  list_is cs q b = get_by_queue (λ k. queue_of le k cs) q [] b

  pub lists_clear : (n : ℕ) → lists_of le (replicate n None) ≡ replicate 32 []
  lists_clear n = alike_by_queue (λ q. queue_of le q (replicate n None)) [] (λ q. queue_clear le q n)

  module _ (laws : Laws le) (cs : List (Cell T)) where
    module _ (i : ℕ) (r : Record T) (near : r.queue < 32) where
      pub lists_fill : i < length cs → HoldsAt (λ c. c ≡ None) cs i → stamped r.entry.stamp cs ≡ 0 → lists_of le (set cs i (Some r)) ≡ set (lists_of le cs) r.queue (insert (precedes_by le) r.entry (get_or (lists_of le cs) r.queue []))
      lists_fill l free new = set_by_queue (λ k. queue_of le k cs) (λ k. queue_of le k (set cs i (Some r))) r.queue (insert (precedes_by le) r.entry (get_or (lists_of le cs) r.queue [])) near
          (queue_fill le laws r.queue cs i r l free new ∙ enters_own le r (queue_of le r.queue cs) ∙ ap (insert (precedes_by le) r.entry) (sym (list_is cs r.queue near)))
          (λ k ne. queue_fill le laws k cs i r l free new ∙ enters_no_other le k r (queue_of le k cs) ne)

      module _ (h : Holds cs i r) (once : stamped r.entry.stamp cs ≤ 1) where
        pub list_drop : get_or (lists_of le cs) r.queue [] ≡ insert (precedes_by le) r.entry (queue_of le r.queue (set cs i None))
        list_drop = list_is cs r.queue near ∙ queue_drop le laws r.queue cs i r h once ∙ enters_own le r (queue_of le r.queue (set cs i None))

        pub list_drop_other : (k : ℕ) → (k ≡ r.queue → ⊥) → queue_of le k (set cs i None) ≡ queue_of le k cs
        list_drop_other k ne = sym (queue_drop le laws k cs i r h once ∙ enters_no_other le k r (queue_of le k (set cs i None)) ne)

        pub lists_drop : (xs : List (Entry T)) → queue_of le r.queue (set cs i None) ≡ xs → lists_of le (set cs i None) ≡ set (lists_of le cs) r.queue xs
        lists_drop xs e = set_by_queue (λ k. queue_of le k cs) (λ k. queue_of le k (set cs i None)) r.queue xs near e list_drop_other

    pub lists_move : (a b : ℕ) → a < 32 → b < 32 → (a ≡ b → ⊥) → ((k : ℕ) → stamped k cs ≤ 1) → lists_of le (map (moved a b) cs) ≡ set (set (lists_of le cs) a (merge (precedes_by le) (get_or (lists_of le cs) a []) (get_or (lists_of le cs) b []))) b []
    lists_move a b l m ne once = set_two_by_queue (λ k. queue_of le k cs) (λ k. queue_of le k (map (moved a b) cs)) a b (merge (precedes_by le) (get_or (lists_of le cs) a []) (get_or (lists_of le cs) b [])) [] l m ne
        (queue_moved_into le laws a b ne cs once ∙ (λ j. merge (precedes_by le) (sym (list_is cs a l) j) (sym (list_is cs b m) j)))
        (queue_moved_from le laws a b ne cs)
        (λ k na nb. queue_moved_other le laws a b ne k cs na nb)
