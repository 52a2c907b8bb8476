-- What a form writes: its line in a script, without the end of the line.
use Rattle.std.specs.Prelude.{ℕ, zero, suc, ◌+◌, List, [], ◌∷◌, map, Some, None, codes}
use Rattle.std.specs.Int.Digits.{digits_of}
use Rattle.scanner.specs.Templates.{fill}
use Rattle.machine.specs.declared.forms.Form.{Form}
use Rattle.machine.specs.declared.forms.Form.TheVariants.{Station, Order, Withdraw, Close, End}

-- a number of any size, as it is written: its digits of base ten, the highest first, and 0 as one zero
unfoldable pub numeral : ℕ → List ℕ
numeral zero = 48 ∷ []
numeral (suc n) = map (λ d. 48 + d) (digits_of 10 (suc n))

-- the forms, with the byte `#` for each number

abbrev pub station_template : List ℕ
station_template = codes "(station # (benches #) (takes #) (holds #) (next #))"

abbrev pub last_station_template : List ℕ
last_station_template = codes "(station # (benches #) (takes #) (holds #) (last))"

abbrev pub order_template : List ℕ
order_template = codes "(order # (at #) (urgency #) (due #) (start #))"

abbrev pub withdraw_template : List ℕ
withdraw_template = codes "(withdraw # (at #))"

abbrev pub close_template : List ℕ
close_template = codes "(close # (at #) (into #))"

abbrev pub end_template : List ℕ
end_template = codes "(end #)"

-- what the template writes with these numbers
abbrev pub written : List ℕ → List ℕ → List ℕ
written t ns = fill t (map numeral ns)

abbrev pub form_text : Form → List ℕ
form_text (Station k b d w (Some m)) = written station_template (k ∷ b ∷ d ∷ w ∷ m ∷ [])
form_text (Station k b d w None) = written last_station_template (k ∷ b ∷ d ∷ w ∷ [])
form_text (Order i t u v k) = written order_template (i ∷ t ∷ u ∷ v ∷ k ∷ [])
form_text (Withdraw i t) = written withdraw_template (i ∷ t ∷ [])
form_text (Close k t j) = written close_template (k ∷ t ∷ j ∷ [])
form_text (End t) = written end_template (t ∷ [])
