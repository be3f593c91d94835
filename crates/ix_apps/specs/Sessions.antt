-- A key-value session in the midst of a stream (the protocol: docs/GROUPS.md, "Applications").
use Rattle.std.specs.Prelude.{◌≡◌, ℕ, List, [], ◌++◌, length, drop}
use Rattle.ix_appdef.specs.declared.key_value.Session.{Session}
use Rattle.ix_appdef.specs.KeyValue.{answers_from, answers_to}

-- The session was given these bytes, and its answers were taken: what it answers to the bytes that follow is the rest of the whole answer.
pub record Continues (session : Session) (told : List ℕ) : Type 0 where
  pub taken : session.answer ≡ []
  pub follows : (rest : List ℕ) → answers_to (told ++ rest) ≡ answers_to told ++ answers_from session.store session.line rest

-- what the answer grows by
abbrev pub grown_by : List ℕ → List ℕ → List ℕ
grown_by told bytes = drop (length (answers_to told)) (answers_to (told ++ bytes))
