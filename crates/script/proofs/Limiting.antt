-- The limits that the lines so far set, with those of the lines to come.
use Rattle.std.proofs.Common.{◌≡◌, ℕ, List, ◌∷◌, Some, None, Option, sym, refl, ap, ◌∙◌}
use Rattle.machine.specs.declared.forms.Form.{Form}
use Rattle.machine.specs.Reading.{read_form}
use Rattle.machine.specs.Script.{limit_of, limits_in}
use Rattle.form_texts.specs.Capping.{told_of}
use Rattle.form_texts.proofs.Ranges.{capped_limit}

-- what is told of a form sets the limit that the form sets
told_limit : (o : Option Form) (ls : List ℕ) → limit_of (told_of o) ls ≡ limit_of o ls
told_limit None ls = refl
told_limit (Some f) ls = capped_limit f ls

-- one line more, which tells a form
pub limits_more : (all ls ms line : List ℕ) (left behind : List (List ℕ)) (o : Option Form) → limits_in left ls ≡ all → left ≡ line ∷ behind → o ≡ told_of (read_form line) → ms ≡ limit_of o ls → limits_in behind ms ≡ all
limits_more all ls ms line left behind o so_far split o_is ms-is =
    let noted : ms ≡ limit_of (read_form line) ls = ms-is ∙ ap (λ x. limit_of x ls) o_is ∙ told_limit (read_form line) ls in
    ap (limits_in behind) noted ∙ sym (ap (λ l. limits_in l ls) split) ∙ so_far
