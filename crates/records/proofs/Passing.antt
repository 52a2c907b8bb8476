-- One pass over the cells: what is known after i of them.
use Rattle.std.proofs.Common.{◌≡◌, ℕ, ◌+◌, ◌<◌, ◌≤◌, Bool, true, false, cond, eqb, ◌⊎◌, List, ◌∷◌, length, get_or, take, drop, is_some, Some, None, Option, sym, ap, ◌∙◌, subst, inl, inr, arith}
use Rattle.std.proofs.lemmas.List.{at_drop_more, at_drop_all}
use Rattle.std.proofs.lemmas.List.Elements.{at_read}
use Rattle.std.proofs.lemmas.List.Sums.{sum_by_more}
use Rattle.std.proofs.lemmas.Bool.{cases_Bool, cond-true, cond-false, eqb-true}
use Rattle.elements.specs.declared.entries.Entry.{Entry}
use Rattle.elements.specs.Order.{Laws, precedes_by}
use Rattle.elements.proofs.Strictness.{strict}
use Rattle.stores.specs.SortedLists.{insert}
use Rattle.stores.specs.Calls.{front}
use Rattle.stores.proofs.Inserting.{front_behind, front_ahead}
use Rattle.records.specs.Cells.{Cell, entry_in, entering, queue_of, queued, Holds, FrontAt, earlier}

-- at the element x, which stands at i
module _ {X : Type 0} (xs : List X) (i : ℕ) (x : X) (l : i < length xs) (read : x ≡ get_or xs i x) where
  pub left_more : {Y : Type 0} (F : List X → Y) → F (drop i xs) ≡ F (x ∷ drop (i + 1) xs)
  left_more F = at_drop_more F xs i x l ∙ ap (λ y. F (y ∷ drop (i + 1) xs)) (sym read)

module _ {T : Type 0} where
  -- of the first i cells and the next one
  pub queued_more : (q n : ℕ) (cs : List (Cell T)) (i : ℕ) (c : Cell T) (b : Bool) → i < length cs → c ≡ get_or cs i c → n ≡ queued q (take i cs) → b ≡ is_some (entry_in q c) → n + cond b 1 0 ≡ queued q (take (i + 1) cs)
  queued_more q n cs i c b l read so e =
      let m = sum_by_more (λ (x : Cell T). cond (is_some (entry_in q x)) 1 0) cs i c l in
      let f = ap (λ (x : Cell T). cond {A = ℕ} (is_some (entry_in q x)) 1 0) read in
      let g = ap (λ (x : Bool). cond {A = ℕ} x 1 0) e in
      omega (arith, so, m, f, g)

  -- an entry of queue q stands in a record of queue q
  pub entry_here : (q : ℕ) (c : Cell T) (e : Entry T) → Some e ≡ entry_in q c → c ≡ Some (record { queue = q; entry = e })
  entry_here q None e h = absurd (let z : ◌≡◌ {A = ℕ} 0 1 = cc in omega arith)
  entry_here q (Some r) e h = go (cases_Bool (eqb r.queue q))
    where
      go : (eqb r.queue q ≡ true) ⊎ (eqb r.queue q ≡ false) → Some r ≡ Some (record { queue = q; entry = e })
      go (inl a) =
          let s : Some e ≡ Some r.entry = h ∙ cond-true (eqb r.queue q) (Some r.entry) None a in
          let same : r.entry ≡ e = cc in
          λ j. Some (record { queue = eqb-true r.queue q a j; entry = same j })
      go (inr a) =
          let s : Some e ≡ None = h ∙ cond-false (eqb r.queue q) (Some r.entry) None a in
          absurd (let z : ◌≡◌ {A = ℕ} 0 1 = cc in omega arith)

-- what was found in the first i cells, together with the cells from i on, gives the front of queue q
abbrev pub Sofar : {T : Type 0} → (T → T → Bool) → ℕ → List (Cell T) → Option (ℕ × Entry T) → ℕ → Type 0
Sofar le q cs None i = queue_of le q cs ≡ queue_of le q (drop i cs)
Sofar le q cs (Some (j, e)) i = (front (queue_of le q cs) ≡ front (insert (precedes_by le) e (queue_of le q (drop i cs)))) × Holds cs j (record { queue = q; entry = e })

module _ {T : Type 0} (le : T → T → Bool) (laws : Laws le) (q : ℕ) (cs : List (Cell T)) where
  pub sofar_all : (found : Option (ℕ × Entry T)) (n : ℕ) → length cs ≤ n → Sofar le q cs found n → FrontAt le q cs found
  sofar_all None n l so = so ∙ at_drop_all (queue_of le q) cs n l
  sofar_all (Some (j, e)) n l so = (so.0 ∙ ap (λ m. front (insert (precedes_by le) e m)) (at_drop_all (queue_of le q) cs n l), so.1)

  -- at the cell c, which stands at i
  module _ (i : ℕ) (c : Cell T) (l : i < length cs) (read : c ≡ get_or cs i c) where
    pub sofar_more : (found new : Option (ℕ × Entry T)) → Sofar le q cs found i → None ≡ entry_in q c → new ≡ found → Sofar le q cs new (i + 1)
    sofar_more found new so e is = subst (λ o. Sofar le q cs o (i + 1)) (sym is) (go found so)
      where
        passed : queue_of le q (drop i cs) ≡ queue_of le q (drop (i + 1) cs)
        passed = left_more cs i c l read (queue_of le q) ∙ ap (λ o. entering le o (queue_of le q (drop (i + 1) cs))) (sym e)

        go : (o : Option (ℕ × Entry T)) → Sofar le q cs o i → Sofar le q cs o (i + 1)
        go None so = so ∙ passed
        go (Some (j, x)) so = (so.0 ∙ ap (λ m. front (insert (precedes_by le) x m)) passed, so.1)

    module _ (e : Entry T) (here : Some e ≡ entry_in q c) where
      enters : queue_of le q (drop i cs) ≡ insert (precedes_by le) e (queue_of le q (drop (i + 1) cs))
      enters = left_more cs i c l read (queue_of le q) ∙ ap (λ o. entering le o (queue_of le q (drop (i + 1) cs))) (sym here)

      stands : Holds cs i (record { queue = q; entry = e })
      stands = (l, at_read cs (λ x. x ≡ Some (record { queue = q; entry = e })) i c l read (entry_here q c e here))

      first_of_two : (found : Option (ℕ × Entry T)) → Sofar le q cs found i → Sofar le q cs (Some (earlier le found i e)) (i + 1)
      first_of_two None so = (ap front (so ∙ enters), stands)
      first_of_two (Some (j, x)) so = go (cases_Bool (precedes_by le e x))
        where
          was : front (queue_of le q cs) ≡ front (insert (precedes_by le) x (insert (precedes_by le) e (queue_of le q (drop (i + 1) cs))))
          was = so.0 ∙ ap (λ m. front (insert (precedes_by le) x m)) enters

          go : (precedes_by le e x ≡ true) ⊎ (precedes_by le e x ≡ false) → Sofar le q cs (Some (earlier le (Some (j, x)) i e)) (i + 1)
          go (inl a) =
              subst (λ p. Sofar le q cs (Some p) (i + 1)) (sym (cond-true (precedes_by le e x) (i, e) (j, x) a))
              (was ∙ front_behind (precedes_by le) (strict le laws) e x (queue_of le q (drop (i + 1) cs)) a, stands)
          go (inr a) =
              subst (λ p. Sofar le q cs (Some p) (i + 1)) (sym (cond-false (precedes_by le e x) (i, e) (j, x) a))
              (was ∙ front_ahead (precedes_by le) (strict le laws) e x (queue_of le q (drop (i + 1) cs)) a, so.1)

      pub sofar_here : (found new : Option (ℕ × Entry T)) (p : ℕ × Entry T) → Sofar le q cs found i → p ≡ earlier le found i e → new ≡ Some p → Sofar le q cs new (i + 1)
      sofar_here found new p so is New-is = subst (λ o. Sofar le q cs o (i + 1)) (sym (New-is ∙ ap Some is)) (first_of_two found so)
