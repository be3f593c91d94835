-- One test after another: the first that fails decides.
use Rattle.std.specs.Prelude.{◌≡◌, Result, Ok, Err}
use Rattle.ix_wire.specs.declared.fault.ScriptKind.{ScriptKind}
use Rattle.ix_wire.specs.declared.fault.Refused.{Refused}
use Rattle.ix_wire.specs.declared.fault.Refused.TheVariants as refusals

infixl 10 ◌>>=◌
abbrev pub ◌>>=◌ : {A B E : Type 0} → Result A E → (A → Result B E) → Result B E
(Ok x) >>= f = f x
(Err fault) >>= f = Err fault

-- what a function that was refused says of the meaning: the same kind, or nothing where memory ran out
abbrev pub Fails : {S : Type 0} → Refused → Result S ScriptKind → Type 0
Fails (refusals.Kind kind) meaning = meaning ≡ Err kind
Fails refusals.NoMemory meaning = Unit {0}

-- a function that changes a value left it as the meaning has it, or was refused
abbrev pub Leaves : {S : Type 0} → Result (Unit {0}) Refused → S → Result S ScriptKind → Type 0
Leaves (Ok done) new meaning = meaning ≡ Ok new
Leaves (Err refused) new meaning = Fails refused meaning
