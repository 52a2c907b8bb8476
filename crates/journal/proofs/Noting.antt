-- The places hold the last changes.
use Rattle.std.proofs.Common.{◌≡◌, ℕ, ◌+◌, ◌-◌, ◌%◌, ◌<◌, ◌≤◌, min, cond, ltb, ◌≢◌, List, [], ◌∷◌, ◌++◌, length, get_or, take, drop, set, Some, None, sym, refl, ap, ◌∙◌, subst, inl, inr, mod-lt, mod-eq_of_lt, arith}
use native.Mathlib.Nat.{mod_self, mod-eq-sub-mod, mod-add-mod}
use Rattle.std.specs.List.{slice_get}
use Rattle.std.proofs.lemmas.List.{append-nil, append_assoc, length-set, length-append, length-take-le, length-drop, drop-take, drop-set-lt, drop-drop, drop-append-le, take_more_set, drop_more, drop_all, get_or_append_left, get_or-append_right, get_or-drop, get_or-take}
use Rattle.std.proofs.lemmas.Option.{slice_get-get_or, slice_get_past}
use Rattle.std.proofs.lemmas.Bool.{cond-true, cond-false, cases_lt, cases_eq, lt-ltb, le-ltb}
use Rattle.journal.specs.declared.logs.Log.{Log}
use Rattle.journal.specs.declared.logs.Change.{Change}
use Rattle.journal.specs.declared.logs.Change.TheVariants.{Put}
use Rattle.journal.specs.Kept.{WellKept, History, Writes, noted, recent, newest}

-- the last n of the last n and more
pub newest_more : (n : ℕ) (xs ys : List Change) → newest n (newest n xs ++ ys) ≡ newest n (xs ++ ys)
newest_more n xs ys =
    elim (cases_lt (length xs) n) [
      | inl few ↦ (let z : length xs - n ≡ 0 = omega arith in ap (λ k. newest n (drop k xs ++ ys)) z)
      | inr many ↦
          let left : length (drop (length xs - n) xs ++ ys) - n ≡ length ys = omega (arith, length-append (drop (length xs - n) xs) ys, length-drop (length xs - n) xs) in
          let right : length (xs ++ ys) - n ≡ (length xs - n) + length ys = omega (arith, length-append xs ys) in
          ap (λ k. drop k (drop (length xs - n) xs ++ ys)) left
          ∙ ap (drop (length ys)) (sym (drop-append-le (length xs - n) xs ys (omega arith)))
          ∙ drop-drop (length ys) (length xs - n) (xs ++ ys)
          ∙ ap (λ k. drop k (xs ++ ys)) (sym right)
    ]

filling : (l : Log) → l.filled < l.used → recent l ≡ take l.filled l.places
filling l lt = cond-true (ltb l.filled l.used) _ _ (lt-ltb l.filled l.used lt)

turning : (l : Log) → l.used ≤ l.filled → recent l ≡ drop l.at (take l.used l.places) ++ take l.at l.places
turning l ge = cond-false (ltb l.filled l.used) _ _ (le-ltb l.filled l.used ge)

module _ (l : Log) (k : WellKept l) where
  used_long : length (take l.used l.places) ≡ l.used
  used_long = length-take-le l.used l.places (omega (arith, k.places, k.most))

  later_long : length (drop l.at (take l.used l.places)) ≡ l.used - l.at
  later_long = length-drop l.at (take l.used l.places) ∙ ap (λ n. n - l.at) used_long

  earlier_long : length (take l.at l.places) ≡ l.at
  earlier_long = length-take-le l.at l.places (omega (arith, k.places, k.most, k.within))

  length-recent : length (recent l) ≡ l.filled
  length-recent =
      elim (cases_lt l.filled l.used) [
        | inl lt ↦ ap length (filling l lt) ∙ length-take-le l.filled l.places (omega (arith, k.places, k.most))
        | inr ge ↦ ap length (turning l ge) ∙ length-append (drop l.at (take l.used l.places)) (take l.at l.places) ∙ omega (arith, later_long, earlier_long, k.within, k.few)
      ]

  -- nothing is written
  pub writes_none : Writes l [] l
  writes_none =
      let z : length (recent l) - l.used ≡ 0 = omega (arith, length-recent, k.few) in
      record {
        places = refl;
        kept = sym (ap (newest l.used) (append-nil (recent l)) ∙ ap (λ n. drop n (recent l)) z);
        history = λ before h. subst (History l) (sym (append-nil before)) h;
      }

  -- the i-th oldest
  module _ (i : ℕ) where
    pub nth_none : l.filled ≤ i → None ≡ slice_get (recent l) i
    nth_none ge = sym (slice_get_past (recent l) i (omega (arith, length-recent)))

    oldest_later : l.used ≤ l.filled → l.at + i < l.used → get_or (recent l) i (Put 0 0) ≡ get_or l.places ((l.at + i) % l.used) (Put 0 0)
    oldest_later ge lt =
        ap (λ cs. get_or cs i (Put 0 0)) (turning l ge)
        ∙ get_or_append_left (drop l.at (take l.used l.places)) (take l.at l.places) (Put 0 0) i (omega (arith, later_long))
        ∙ get_or-drop l.at (take l.used l.places) i (Put 0 0)
        ∙ get_or-take l.used l.places (l.at + i) (Put 0 0) lt
        ∙ ap (λ n. get_or l.places n (Put 0 0)) (sym (mod-eq_of_lt lt))

    oldest_earlier : i < l.filled → l.used ≤ l.filled → l.used ≤ l.at + i → get_or (recent l) i (Put 0 0) ≡ get_or l.places ((l.at + i) % l.used) (Put 0 0)
    oldest_earlier here ge le =
        let less : (l.at + i) - l.used < l.used = omega (arith, k.few, k.within) in
        let same : i - (l.used - l.at) ≡ (l.at + i) - l.used = omega (arith, k.within) in
        ap (λ cs. get_or cs i (Put 0 0)) (turning l ge)
        ∙ get_or-append_right (drop l.at (take l.used l.places)) (take l.at l.places) (l.used - l.at) i (Put 0 0) later_long (omega (arith, k.within))
        ∙ get_or-take l.at l.places (i - (l.used - l.at)) (Put 0 0) (omega (arith, k.few, k.within))
        ∙ ap (λ n. get_or l.places n (Put 0 0)) (same ∙ sym (mod-eq-sub-mod le ∙ mod-eq_of_lt less))

    pub nth_some : (p : ℕ) → i < l.filled → p ≡ cond (ltb l.filled l.used) i ((l.at + i) % l.used) → Some (get_or l.places p (Put 0 0)) ≡ slice_get (recent l) i
    nth_some p here is = ap Some (ap (λ n. get_or l.places n (Put 0 0)) is ∙ sym found) ∙ sym (slice_get-get_or (recent l) i (Put 0 0) (omega (arith, length-recent)))
      where
        found : get_or (recent l) i (Put 0 0) ≡ get_or l.places (cond (ltb l.filled l.used) i ((l.at + i) % l.used)) (Put 0 0)
        found =
            elim (cases_lt l.filled l.used) [
              | inl lt ↦ rw (lt-ltb l.filled l.used lt) (get_or-take l.filled l.places i (Put 0 0) here)
              | inr ge ↦
                  ap (λ b. get_or (recent l) i (Put 0 0)) (le-ltb l.filled l.used ge)
                  ∙ elim (cases_lt (l.at + i) l.used) [ inl lt ↦ oldest_later ge lt | inr le ↦ oldest_earlier here ge le ]
                  ∙ ap (λ n. get_or l.places n (Put 0 0)) (sym (cond-false (ltb l.filled l.used) i ((l.at + i) % l.used) (le-ltb l.filled l.used ge)))
            ]

  -- one change is written
  module _ (c : Change) where
    next_wraps : l.at + 1 ≡ l.used → (l.at + 1) % l.used ≡ 0
    next_wraps e = ap (λ n. n % l.used) e ∙ mod_self l.used

    next_on : l.at + 1 ≢ l.used → (l.at + 1) % l.used ≡ l.at + 1
    next_on ne = mod-eq_of_lt (omega (arith, k.within, ne))

    kept_noted : WellKept (noted l (c ∷ []))
    kept_noted = record {
      places = length-set l.places l.at c ∙ k.places;
      some = k.some;
      most = k.most;
      within = mod-lt (l.at + 1) k.some;
      few = omega arith;
      first_round = λ h.
          let lt : l.filled + 1 < l.used = omega arith in
          let same : l.at ≡ l.filled = k.first_round (omega arith) in
          mod-eq_of_lt (omega (arith, same)) ∙ omega (arith, same);
    }

    written : take (l.at + 1) (set l.places l.at c) ≡ take l.at l.places ++ c ∷ []
    written = take_more_set l.places l.at c (omega (arith, k.places, k.most, k.within))

    -- the places from the next one on and round, where the next is the first, and where it is not
    wrapped : l.at + 1 ≡ l.used → drop ((l.at + 1) % l.used) (take l.used (set l.places l.at c)) ++ take ((l.at + 1) % l.used) (set l.places l.at c) ≡ take l.at l.places ++ c ∷ []
    wrapped e =
        ap (λ n. drop n (take l.used (set l.places l.at c)) ++ take n (set l.places l.at c)) (next_wraps e)
        ∙ append-nil (take l.used (set l.places l.at c))
        ∙ ap (λ n. take n (set l.places l.at c)) (sym e)
        ∙ written

    behind : drop (l.at + 1) (take l.used (set l.places l.at c)) ≡ drop (l.at + 1) (take l.used l.places)
    behind =
        let e : l.used ≡ (l.at + 1) + (l.used - (l.at + 1)) = omega (arith, k.within) in
        ap (λ u. drop (l.at + 1) (take u (set l.places l.at c))) e
        ∙ drop-take (l.at + 1) (l.used - (l.at + 1)) (set l.places l.at c)
        ∙ ap (take (l.used - (l.at + 1))) (drop-set-lt (l.at + 1) l.places l.at c (omega arith))
        ∙ sym (drop-take (l.at + 1) (l.used - (l.at + 1)) l.places)
        ∙ ap (λ u. drop (l.at + 1) (take u l.places)) (sym e)

    round : l.at + 1 ≢ l.used → drop ((l.at + 1) % l.used) (take l.used (set l.places l.at c)) ++ take ((l.at + 1) % l.used) (set l.places l.at c) ≡ drop (l.at + 1) (take l.used l.places) ++ (take l.at l.places ++ c ∷ [])
    round ne =
        ap (λ n. drop n (take l.used (set l.places l.at c)) ++ take n (set l.places l.at c)) (next_on ne)
        ∙ ap (λ cs. cs ++ take (l.at + 1) (set l.places l.at c)) behind
        ∙ ap (λ cs. drop (l.at + 1) (take l.used l.places) ++ cs) written

    -- none leaves while places are free; else the oldest does
    all_stay : l.filled < l.used → newest l.used (recent l ++ c ∷ []) ≡ take l.at l.places ++ c ∷ []
    all_stay lt =
        let z : length (recent l ++ c ∷ []) - l.used ≡ 0 = omega (arith, length-append (recent l) (c ∷ []), length-recent) in
        ap (λ n. drop n (recent l ++ c ∷ [])) z
        ∙ ap (λ cs. cs ++ c ∷ []) (filling l lt ∙ ap (λ n. take n l.places) (sym (k.first_round lt)))

    oldest_leaves : l.used ≤ l.filled → newest l.used (recent l ++ c ∷ []) ≡ drop (l.at + 1) (take l.used l.places) ++ (take l.at l.places ++ c ∷ [])
    oldest_leaves ge =
        let z : length (recent l ++ c ∷ []) - l.used ≡ 1 = omega (arith, length-append (recent l) (c ∷ []), length-recent, k.few) in
        let first = drop_more (take l.used l.places) l.at (Put 0 0) (omega (arith, used_long, k.within)) in
        ap (λ n. drop n (recent l ++ c ∷ [])) z
        ∙ ap (λ cs. drop 1 (cs ++ c ∷ [])) (turning l ge ∙ ap (λ cs. cs ++ take l.at l.places) first)
        ∙ append_assoc (drop (l.at + 1) (take l.used l.places)) (take l.at l.places) (c ∷ [])

    recent_free : l.filled < l.used → recent (noted l (c ∷ [])) ≡ take l.at l.places ++ c ∷ []
    recent_free lt =
        let same : l.at ≡ l.filled = k.first_round lt in
        elim (cases_eq (l.at + 1) l.used) [
          | inl e ↦ turning (noted l (c ∷ [])) (omega (arith, same, e)) ∙ wrapped e
          | inr ne ↦
              let more : min (l.filled + 1) l.used ≡ l.at + 1 = omega (arith, same, lt) in
              filling (noted l (c ∷ [])) (omega (arith, same, ne, lt)) ∙ ap (λ n. take n (set l.places l.at c)) more ∙ written
        ]

    recent_full : l.used ≤ l.filled → recent (noted l (c ∷ [])) ≡ drop (l.at + 1) (take l.used l.places) ++ (take l.at l.places ++ c ∷ [])
    recent_full ge =
        turning (noted l (c ∷ [])) (omega arith)
        ∙ elim (cases_eq (l.at + 1) l.used) [
          | inl e ↦ wrapped e ∙ ap (λ cs. cs ++ (take l.at l.places ++ c ∷ [])) (sym (drop_all (l.at + 1) (take l.used l.places) (omega (arith, used_long))))
          | inr ne ↦ round ne
        ]

    recent_noted : recent (noted l (c ∷ [])) ≡ newest l.used (recent l ++ c ∷ [])
    recent_noted = elim (cases_lt l.filled l.used) [ inl lt ↦ recent_free lt ∙ sym (all_stay lt) | inr ge ↦ recent_full ge ∙ sym (oldest_leaves ge) ]

    writes_one : Writes l (c ∷ []) (noted l (c ∷ []))
    writes_one = record {
      places = refl;
      kept = recent_noted;
      history = λ before h. record {
        next = ap (λ n. (n + 1) % l.used) h.next ∙ mod-add-mod (length before) l.used 1 ∙ ap (λ n. n % l.used) (sym (length-append before (c ∷ [])));
        kept = recent_noted ∙ ap (λ cs. newest l.used (cs ++ c ∷ [])) h.kept ∙ newest_more l.used before (c ∷ []);
      };
    }

    -- the log as it is written, a field at a time
    module _ (a f : ℕ) (next : a ≡ (l.at + 1) % l.used) (more : f ≡ min (l.filled + 1) l.used) where
      abbrev changed : Log
      changed = record { places = set l.places l.at c; used = l.used; at = a; filled = f; height = l.height }

      is_noted : changed ≡ noted l (c ∷ [])
      is_noted = λ j. record { places = set l.places l.at c; used = l.used; at = next j; filled = more j; height = l.height }

      pub note_kept : WellKept changed
      note_kept = subst WellKept (sym is_noted) kept_noted

      pub note_writes : Writes l (c ∷ []) changed
      note_writes = subst (Writes l (c ∷ [])) (sym is_noted) writes_one
