-- The forms that are one of a few words.
use mathlib.Core.Path.{◌≡◌}
use mathlib.Core.Logic.{◌⊎◌, inl, inr}
use Rattle.meaning.specs.Forms.{one_of}
use Rattle.shapes.specs.declared.Form.{Form as FormName}
use Rattle.shapes.specs.declared.Form.TheVariants.{Sign, Kind, Movement, Payment, Wish}
use Rattle.shapes.specs.Table.{plain_form, words_of}

pub choice_form : (φ : FormName) → (φ ≡ Sign) ⊎ (φ ≡ Kind) ⊎ (φ ≡ Movement) ⊎ (φ ≡ Payment) ⊎ (φ ≡ Wish) → plain_form φ ≡ one_of (words_of (plain_form φ))
unfolding words_of
choice_form φ (inl e) = rw e
choice_form φ (inr (inl e)) = rw e
choice_form φ (inr (inr (inl e))) = rw e
choice_form φ (inr (inr (inr (inl e)))) = rw e
choice_form φ (inr (inr (inr (inr e)))) = rw e
