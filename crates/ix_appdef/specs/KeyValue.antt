-- The answers to a stream of lines.
use Rattle.std.specs.Prelude.{ℕ, ◌==◌, if◌then◌else◌, List, [], ◌∷◌, ◌++◌}
use Rattle.ix_appdef.specs.declared.store.Entry.{Entry}
use Rattle.ix_appdef.specs.declared.key_value.Session.{Session}
use Rattle.ix_appdef.specs.Request.{request_of}
use Rattle.ix_appdef.specs.Store.{Outcome, carried_out}

abbrev pub outcome_of : List ℕ → List Entry → Outcome
outcome_of line store = carried_out (request_of line) store

-- The answers to the complete lines of a stream, one behind another. line: the bytes since the last line feed.
unfoldable pub answers_from : List Entry → List ℕ → List ℕ → List ℕ
answers_from store line [] = []
answers_from store line (b ∷ bs) =
    if b == 0x0a
    then (outcome_of line store).answer ++ answers_from (outcome_of line store).store [] bs
    else answers_from store (line ++ b ∷ []) bs

-- from an empty store
abbrev pub answers_to : List ℕ → List ℕ
answers_to told = answers_from [] [] told

-- what was answered so far, and the answers to what comes
abbrev pub answers_with : Session → List ℕ → List ℕ
answers_with s rest = s.answer ++ answers_from s.store s.line rest
