-- The store of one connection, and what a request makes of it.
use Rattle.std.specs.Prelude.{ℕ, Bool, nat_lt, if◌then◌else◌, List, [], ◌∷◌, ◌++◌, length, codes, bytes_eq, slice_get, slice_set, remove, Option, Some, None}
use Rattle.std.specs.List.{position}
use Rattle.ix_appdef.specs.declared.request.Request.{Request}
use Rattle.ix_appdef.specs.declared.request.Request.TheVariants as requests
use Rattle.ix_appdef.specs.declared.store.TheConstants.{KEYS_MOST}
use Rattle.ix_appdef.specs.declared.store.Entry.{Entry}

-- the store after a request, and the answer
pub record Outcome : Type 0 where
  pub store : List Entry
  pub answer : List ℕ

abbrev pub line : List ℕ → List ℕ
line text = text ++ 0x0a ∷ []

abbrev pub has_key : List ℕ → Entry → Bool
has_key key e = bytes_eq e.key key

abbrev pub entry : List ℕ → List ℕ → Entry
entry key value = record { key = key; value = value }

-- A key that is held gets the new value; a new key is taken while there are fewer than 256.
abbrev pub set_at : Option ℕ → Entry → List Entry → Outcome
set_at (Some at) new store = record { store = slice_set store at new; answer = line (codes "ok") }
set_at None new store =
    if nat_lt (length store) KEYS_MOST
    then record { store = store ++ new ∷ []; answer = line (codes "ok") }
    else record { store = store; answer = line (codes "full") }

abbrev pub value_line : Option Entry → List ℕ
value_line (Some e) = line (codes "value " ++ e.value)
value_line None = line (codes "none")

abbrev pub value_at : Option ℕ → List Entry → List ℕ
value_at (Some at) store = value_line (slice_get store at)
value_at None store = line (codes "none")

abbrev pub removed_at : Option ℕ → List Entry → Outcome
removed_at (Some at) store = record { store = remove store at; answer = line (codes "ok") }
removed_at None store = record { store = store; answer = line (codes "none") }

unfoldable pub carried_out : Request → List Entry → Outcome
carried_out (requests.Set key value) store = set_at (position (has_key key) store) (entry key value) store
carried_out (requests.Get key) store = record { store = store; answer = value_at (position (has_key key) store) store }
carried_out (requests.Del key) store = removed_at (position (has_key key) store) store
carried_out requests.Bad store = record { store = store; answer = line (codes "bad") }
