-- Both slices are taken out of the store, lent, and put back.
use Rattle.std.proofs.Common.{◌≡◌, subst}

pub carried : {A B : Type 0} (P : A → B → Type 0) {a a' : A} {b b' : B} → a ≡ a' → b ≡ b' → P a b → P a' b'
carried P {a} {a'} {b} {b'} p q h = subst (λ y. P a' y) q (subst (λ x. P x b) p h)
