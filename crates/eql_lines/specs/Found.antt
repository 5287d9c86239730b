-- What is kept of a list of scalars: its texts in order, and whether it has none, the one, or several.
use Rattle.std.specs.Prelude.{ℕ, ℤ, pos, List, [], ◌∷◌, ◌++◌, Bool, true, false, Option, Some, None, slice_get}
use Rattle.eql_lines.specs.Reach.{Scalar, text, whole, fractional, truth}
use Rattle.eql_lines.specs.Kept.{kept_texts}
use Rattle.eql_lines.specs.declared.number.Num.{Num}
use Rattle.eql_lines.specs.declared.number.Num.TheVariants.{Unsigned, Negative, Fractional}
use Rattle.eql_lines.specs.declared.slots.Seen.{Seen}
use Rattle.eql_lines.specs.declared.slots.Seen.TheVariants.{Nothing, Text, Number, Truth, Several}
use Rattle.eql_lines.specs.declared.slots.Slot.{Slot}
use Rattle.eql_lines.specs.declared.slots.Single.{Single}
use Rattle.eql_lines.specs.declared.slots.Single.TheVariants as single

-- a text is told by its kind alone: it stands among the texts
pub data Shape : Type 0 where
  no_scalar : Shape
  a_text : Shape
  a_whole : ℤ → Shape
  a_fraction : Shape
  a_truth : Bool → Shape
  several : Shape

pub record Found : Type 0 where
  pub shape : Shape
  pub texts : List (List ℕ)

abbrev pub shape_of : Scalar → Shape
shape_of (text t) = a_text
shape_of (whole z) = a_whole z
shape_of fractional = a_fraction
shape_of (truth b) = a_truth b

abbrev pub texts_of : Scalar → List (List ℕ)
texts_of (text t) = t ∷ []
texts_of (whole z) = []
texts_of fractional = []
texts_of (truth b) = []

abbrev pub nothing : Found
nothing = record { shape = no_scalar; texts = [] }

abbrev pub one : Scalar → Found
one s = record { shape = shape_of s; texts = texts_of s }

abbrev pub shape_more : Shape → Shape → Shape
shape_more no_scalar x = x
shape_more a_text x = several
shape_more (a_whole z) x = several
shape_more a_fraction x = several
shape_more (a_truth b) x = several
shape_more several x = several

abbrev pub found_more : Found → Scalar → Found
found_more f s = record { shape = shape_more f.shape (shape_of s); texts = f.texts ++ texts_of s }

-- with these further ones
abbrev pub found_all : Found → List Scalar → Found
found_all f [] = f
found_all f (s ∷ ss) = found_all (found_more f s) ss

abbrev pub scalar_of : Num → Scalar
scalar_of (Unsigned n) = whole (pos n)
scalar_of (Negative z) = whole z
scalar_of Fractional = fractional

abbrev pub shape_by : Seen → Shape
shape_by Nothing = no_scalar
shape_by Text = a_text
shape_by (Number n) = shape_of (scalar_of n)
shape_by (Truth b) = a_truth b
shape_by Several = several

-- what is added with this text, which counts only where it is a text
abbrev pub found_by : Seen → List ℕ → Found
found_by Nothing t = nothing
found_by Text t = one (text t)
found_by (Number n) t = one (scalar_of n)
found_by (Truth b) t = one (truth b)
found_by Several t = record { shape = several; texts = [] }

abbrev pub found_of : Slot → Found
found_of s = record { shape = shape_by s.seen; texts = kept_texts s.kept }

abbrev pub found_in : Option Slot → Found
found_in None = nothing
found_in (Some s) = found_of s

-- what the slot of this place has
abbrev pub found_at : List Slot → ℕ → Found
found_at slots i = found_in (slice_get slots i)

-- the one scalar that a slot gives
abbrev pub single_scalar : Single → Scalar
single_scalar (single.Text t) = text t.now
single_scalar (single.Number n) = scalar_of n
single_scalar (single.Truth b) = truth b

abbrev pub first_text : List (List ℕ) → Option Scalar
first_text [] = None
first_text (t ∷ ts) = Some (text t)

abbrev pub only_by : Shape → List (List ℕ) → Option Scalar
only_by no_scalar ts = None
only_by a_text ts = first_text ts
only_by (a_whole z) ts = Some (whole z)
only_by a_fraction ts = Some fractional
only_by (a_truth b) ts = Some (truth b)
only_by several ts = None

-- the scalar, if it is the only one
abbrev pub only_found : Found → Option Scalar
only_found f = only_by f.shape f.texts

abbrev pub is_no_scalar : Shape → Bool
is_no_scalar no_scalar = true
is_no_scalar a_text = false
is_no_scalar (a_whole z) = false
is_no_scalar a_fraction = false
is_no_scalar (a_truth b) = false
is_no_scalar several = false

abbrev pub is_missing : Found → Bool
is_missing f = is_no_scalar f.shape
