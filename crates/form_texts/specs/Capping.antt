-- Forms as programs hold them: a number that is too large for 32 bits is told as the largest.
use Rattle.std.specs.Prelude.{◌≡◌, ℕ, min, List, Some, None, Option, ◌≢◌}
use Rattle.machine.specs.declared.forms.Form.{Form}
use Rattle.machine.specs.declared.forms.Form.TheVariants.{Station, Order, Withdraw, Close, End}
use Rattle.form_texts.specs.Texts.{form_text}

abbrev pub cap : ℕ → ℕ
cap n = min 4294967295 n

abbrev pub cap_next : Option ℕ → Option ℕ
cap_next None = None
cap_next (Some m) = Some (cap m)

abbrev pub capped : Form → Form
capped (Station k b d w n) = Station (cap k) (cap b) (cap d) (cap w) (cap_next n)
capped (Order i t u v k) = Order (cap i) (cap t) (cap u) (cap v) (cap k)
capped (Withdraw i t) = Withdraw (cap i) (cap t)
capped (Close k t j) = Close (cap k) (cap t) (cap j)
capped (End t) = End (cap t)

-- what is told of a form, where there is one
abbrev pub told_of : Option Form → Option Form
told_of None = None
told_of (Some f) = Some (capped f)

-- what is told of a line: none where no form writes it, else the form that writes it, capped
abbrev pub Tells : List ℕ → Option Form → Type 0
Tells line None = (f : Form) → line ≢ form_text f
Tells line (Some g) = (f : Form) × (line ≡ form_text f) × (g ≡ capped f)
