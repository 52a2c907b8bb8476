-- A put on the machine's lists is refused and changes nothing, or it gives out the next stamp.
use Rattle.std.proofs.Common.{◌≡◌, ℕ, zero, suc, Bool, true, false, eqb, leb, ◌⊎◌, Some, None, Ok, Err, Option, refl, inl, inr}
use Rattle.stores.specs.declared.refusals.Refusal.{Refusal}
use Rattle.stores.specs.Meaning.{count_of, reached, reached_height}
use Rattle.stores.specs.Calls.{put_after}
use Rattle.machine.specs.Machine.{Store}
use Rattle.machine.specs.Puts.{try, tried_by, bound_at}

module _ {T : Type 0} (le : T → T → Bool) (c : Option ℕ) (s : Store T) (q : ℕ) (x : T) where
  pub record Refused : Type 0 where
    pub refusal : Refusal
    pub cut : Option ℕ
    pub is : try le c s q x ≡ record { answer = Err refusal; state = s.state; cut = cut }

  pub record Accepted : Type 0 where
    pub cut : Option ℕ
    pub queue : leb 32 q ≡ false
    pub below : reached (bound_at s.bounds q) (count_of s.state q) ≡ false
    pub stamp : eqb s.state.next s.bounds.stamps ≡ false
    pub is : try le c s q x ≡ record { answer = Ok s.state.next; state = put_after le s.state q x (Ok s.state.next); cut = cut }

  abbrev height : ℕ
  height = reached_height (bound_at s.bounds q) (count_of s.state q)

  pub tried : Refused ⊎ Accepted
  tried = go (leb 32 q) (reached (bound_at s.bounds q) (count_of s.state q)) (eqb s.state.next s.bounds.stamps) c refl refl refl refl
    where
      at : (a b d : Bool) (o : Option ℕ) → leb 32 q ≡ a → reached (bound_at s.bounds q) (count_of s.state q) ≡ b → eqb s.state.next s.bounds.stamps ≡ d → c ≡ o → try le c s q x ≡ tried_by le a b d height o s.state q x
      at a b d o ea eb ed eo = λ i. tried_by le (ea i) (eb i) (ed i) height (eo i) s.state q x

      go : (a b d : Bool) (o : Option ℕ) → leb 32 q ≡ a → reached (bound_at s.bounds q) (count_of s.state q) ≡ b → eqb s.state.next s.bounds.stamps ≡ d → c ≡ o → Refused ⊎ Accepted
      go true b d o ea eb ed eo = inl (record { refusal = _; cut = _; is = at true b d o ea eb ed eo })
      go false true d o ea eb ed eo = inl (record { refusal = _; cut = _; is = at false true d o ea eb ed eo })
      go false false d (Some zero) ea eb ed eo = inl (record { refusal = _; cut = _; is = at false false d (Some 0) ea eb ed eo })
      go false false true None ea eb ed eo = inl (record { refusal = _; cut = _; is = at false false true None ea eb ed eo })
      go false false true (Some (suc o)) ea eb ed eo = inl (record { refusal = _; cut = _; is = at false false true (Some (suc o)) ea eb ed eo })
      go false false false None ea eb ed eo = inr (record { cut = _; queue = ea; below = eb; stamp = ed; is = at false false false None ea eb ed eo })
      go false false false (Some (suc o)) ea eb ed eo = inr (record { cut = _; queue = ea; below = eb; stamp = ed; is = at false false false (Some (suc o)) ea eb ed eo })
