-- A line of the script, from its bytes to its form.
use Rattle.std.specs.Prelude.{ℕ, ◌+◌, ◌-◌, ◌*◌, Bool, true, false, ◌&&◌, List, [], ◌∷◌, Some, None, codes, Option, ◌==◌, nat_le, slice_index}
use Rattle.machine.specs.declared.forms.Form.{Form}
use Rattle.machine.specs.declared.forms.Form.TheVariants.{Station, Order, Withdraw, Close, End}

-- Each form is a row of words with a number after each, and an end.

pub record Shape : Type 0 where
  pub words : List (List ℕ)
  pub last : List ℕ
  -- the form that has these numbers
  pub form : List ℕ → Form

abbrev pub at : List ℕ → ℕ → ℕ
at ns i = slice_index ns i

-- (station K (benches B) (takes D) (holds W) (next M))
abbrev pub station_shape : Shape
station_shape = record {
  words = codes "(station " ∷ codes " (benches " ∷ codes ") (takes " ∷ codes ") (holds " ∷ codes ") (next " ∷ [];
  last = codes "))";
  form = λ ns. Station (at ns 0) (at ns 1) (at ns 2) (at ns 3) (Some (at ns 4));
}

-- (station K (benches B) (takes D) (holds W) (last))
abbrev pub last_station_shape : Shape
last_station_shape = record {
  words = codes "(station " ∷ codes " (benches " ∷ codes ") (takes " ∷ codes ") (holds " ∷ [];
  last = codes ") (last))";
  form = λ ns. Station (at ns 0) (at ns 1) (at ns 2) (at ns 3) None;
}

-- (order I (at T) (urgency U) (due V) (start K))
abbrev pub order_shape : Shape
order_shape = record {
  words = codes "(order " ∷ codes " (at " ∷ codes ") (urgency " ∷ codes ") (due " ∷ codes ") (start " ∷ [];
  last = codes "))";
  form = λ ns. Order (at ns 0) (at ns 1) (at ns 2) (at ns 3) (at ns 4);
}

-- (withdraw I (at T))
abbrev pub withdraw_shape : Shape
withdraw_shape = record { words = codes "(withdraw " ∷ codes " (at " ∷ []; last = codes "))"; form = λ ns. Withdraw (at ns 0) (at ns 1) }

-- (close K (at T) (into M))
abbrev pub close_shape : Shape
close_shape = record { words = codes "(close " ∷ codes " (at " ∷ codes ") (into " ∷ []; last = codes "))"; form = λ ns. Close (at ns 0) (at ns 1) (at ns 2) }

-- (end T)
abbrev pub end_shape : Shape
end_shape = record { words = codes "(end " ∷ []; last = codes ")"; form = λ ns. End (at ns 0) }

abbrev pub shapes : List Shape
shapes = station_shape ∷ last_station_shape ∷ order_shape ∷ withdraw_shape ∷ close_shape ∷ end_shape ∷ []

-- The bytes are gone through once.

abbrev pub bind : {A B : Type 0} → Option A → (A → Option B) → Option B
bind None f = None
bind (Some a) f = f a

-- what follows the word that the bytes begin with
abbrev pub after_word : List ℕ → List ℕ → Option (List ℕ)
after_word [] bs = Some bs
after_word (w ∷ ws) [] = None
after_word (w ∷ ws) (b ∷ bs) = elim (b == w) [ true ↦ after_word ws bs | false ↦ None ]

abbrev pub is_digit : ℕ → Bool
is_digit b = nat_le 48 b && nat_le b 57

-- the digits that follow the number n, and what follows them
abbrev pub more_digits : ℕ → List ℕ → ℕ × List ℕ
more_digits n [] = (n, [])
more_digits n (b ∷ bs) = elim (is_digit b) [ true ↦ more_digits (n * 10 + (b - 48)) bs | false ↦ (n, b ∷ bs) ]

-- the number that the bytes begin with, and what follows it; a 0 in front stands alone
abbrev pub number_at : List ℕ → Option (ℕ × List ℕ)
number_at [] = None
number_at (b ∷ bs) = elim (b == 48) [ true ↦ Some (0, bs) | false ↦ elim (is_digit b) [ true ↦ Some (more_digits (b - 48) bs) | false ↦ None ] ]

-- nothing follows
abbrev pub at_end : List ℕ → Option (List ℕ)
at_end [] = Some []
at_end (b ∷ bs) = None

-- the numbers of bytes that are of the shape
abbrev pub scan : List (List ℕ) → List ℕ → List ℕ → Option (List ℕ)
scan [] last bs = bind (after_word last bs) at_end
scan (w ∷ ws) last bs = bind (after_word w bs) (λ r. bind (number_at r) (λ p. bind (scan ws last p.1) (λ ns. Some (p.0 ∷ ns))))

abbrev pub first_of : List Shape → List ℕ → Option Form
first_of [] bs = None
first_of (s ∷ ss) bs = elim (scan s.words s.last bs) [ None ↦ first_of ss bs | Some ns ↦ Some (s.form ns) ]

abbrev pub read_form : List ℕ → Option Form
read_form bs = first_of shapes bs
