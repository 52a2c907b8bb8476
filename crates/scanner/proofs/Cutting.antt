-- Parts of lent bytes, by where they were cut off.
use Rattle.std.proofs.Common.{◌≡◌, ℕ, ◌+◌, ◌-◌, ◌≤◌, List, length, take, drop, ◌∙◌, arith, Bor}
use Rattle.std.proofs.lemmas.List.{take_all, length-drop}
use Rattle.scanner.specs.Tokens.{Part}

-- from j up to e
pub part_cut : (lent part : Bor (List ℕ)) (i n j e : ℕ) → j ≡ i → e ≡ i + n → i + n ≤ length lent.now → part.now ≡ take (e - j) (drop j lent.now) → part.ref_ptr.0 ≡ lent.ref_ptr.0 → part.ref_ptr.1 ≡ j + lent.ref_ptr.1 → Part lent i n part
part_cut lent part i n j e p q within is block place =
    let m : e - j ≡ n = omega arith in
    record {
      within = within;
      is = is ∙ (λ k. take (m k) (drop (p k) lent.now));
      block = block;
      place = omega (arith, place, p);
    }

-- what a part to the end has
pub part_behind : (lent part : Bor (List ℕ)) (i : ℕ) → Part lent i (length lent.now - i) part → part.now ≡ drop i lent.now
part_behind lent part i p = p.is ∙ take_all (length lent.now - i) (drop i lent.now) (omega (arith, length-drop i lent.now))
