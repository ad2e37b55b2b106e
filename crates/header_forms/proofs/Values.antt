-- What the code's numbers are, form by form.
use Prim.Native.Nat.{◌^◌}
use mathlib.Core.Path.{◌≡◌, refl}
use Rattle.header_forms.specs.Answers.{form_of}
use Rattle.header_forms.specs.declared.Form.{Form}

pub top-bits : (form : Form) → 3 ≡ (form_of form).top_bits
top-bits Form.Long = refl

pub masked-values : (form : Form) → 16 ≡ 2 ^ (form_of form).masked_bits
masked-values Form.Long = refl

pub values-below-reserved : (form : Form) → 4 ≡ 2 ^ (form_of form).below_reserved
values-below-reserved Form.Long = refl
