-- What each application answers: a function of whether its connection was told to be up, and of the bytes that it was told.
use Rattle.std.specs.Prelude.{◌≡◌, ℕ, Bool, true, false, if◌then◌else◌, List, [], ◌++◌}
use Rattle.ix_base.specs.Prefix.{IsPrefix}
use Rattle.ix_appdef.specs.declared.application.Application.{Application}
use Rattle.ix_appdef.specs.declared.application.Application.TheVariants as applications
use Rattle.ix_appdef.specs.KeyValue.{answers_to}

-- the delivered bytes
abbrev pub echo_answer : Bool → List ℕ → List ℕ
echo_answer up told = told

-- the answers to the complete lines
abbrev pub kv_answer : Bool → List ℕ → List ℕ
kv_answer up told = answers_to told

-- the text, once the connection stands
abbrev pub push_answer : List ℕ → Bool → List ℕ → List ℕ
push_answer text up told = if up then text else []

abbrev pub answer_of : Application → Bool → List ℕ → List ℕ
answer_of applications.Echo = echo_answer
answer_of applications.Kv = kv_answer
answer_of (applications.Push text) = push_answer text

-- What is told only adds to the answer: the answer to a longer stream begins with the answer to its beginning.
abbrev pub Grows : (Bool → List ℕ → List ℕ) → Type 0
Grows answer =
    (up later : Bool) (told more : List ℕ) → (up ≡ true → later ≡ true) → IsPrefix (answer up told) (answer later (told ++ more))

abbrev pub AnswersGrow : Type 0
AnswersGrow = (application : Application) → Grows (answer_of application)

-- Nothing is answered before anything is told.
abbrev pub NothingFirst : Type 0
NothingFirst = (application : Application) → answer_of application false [] ≡ []
