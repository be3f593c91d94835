-- The files that a host in memory is given, taken from the last to the first.
use Rattle.std.proofs.Common.{◌≡◌, ℕ, List, [], ◌∷◌, ◌++◌, if◌then◌else◌, refl, sym, ◌∙◌, ap}
use Rattle.std.specs.Prelude.{Option, Some, unwrap_or}
use Rattle.ix_base.specs.declared.mem.MemHost.{MemHost}
use Rattle.ix_base.specs.declared.role.Role.{Role}
use Rattle.ix_base.specs.declared.role.Role.TheVariants.{Conf, Capture, Script, GivenTrace, GivenReplies, Other, Replies, Trace, Played}
use Rattle.ix_base.specs.Role.{IsRead}
use Rattle.ix_base.specs.Mem.{is_role, file_or, mem_written, room_left, left_bytes, IsFresh, Fills, Places}

-- The files that are left and what the host holds already give what all of them and the first host give.
pub record Filling (all rest : List (Role × List ℕ)) (first m : MemHost) : Type 0 where
  pub files : (role : Role) → IsRead role → file_or (left_bytes m role) role rest ≡ file_or (left_bytes first role) role all
  pub fresh : (contents : Role → List ℕ) (capacity : ℕ) (refused : List ℕ) → IsFresh contents capacity refused first → IsFresh (left_bytes m) capacity refused m

-- what a fresh host has left of a role that is read
fresh_left : (contents : Role → List ℕ) (capacity : ℕ) (refused : List ℕ) (m : MemHost) → IsFresh contents capacity refused m → (role : Role) → IsRead role
    → left_bytes m role ≡ contents role
fresh_left contents capacity refused m fresh role is = ap (λ (left : Option (List ℕ)). unwrap_or left []) (fresh.left role is)

pub filling_first : (all : List (Role × List ℕ)) (m : MemHost) → Filling all all m m
filling_first all m = record {
  files = λ role is. refl;
  fresh = λ contents capacity refused fresh.
      record {
        left = λ role is. fresh.left role is ∙ ap (λ (l : List ℕ). Some l) (sym (fresh_left contents capacity refused m fresh role is));
        written = fresh.written;
        room = fresh.room;
        attached = fresh.attached;
        calls = fresh.calls;
        fail = fresh.fail;
        reading = fresh.reading;
        writing = fresh.writing;
      };
}

pub file_or-append : (none : List ℕ) (role : Role) (files : List (Role × List ℕ)) (file : Role × List ℕ)
    → file_or none role (files ++ file ∷ []) ≡ file_or (if is_role file.0 role then file.1 else none) role files
file_or-append none role [] file = refl
file_or-append none role (f ∷ files) file = ap (λ (bytes : List ℕ). if is_role f.0 role then f.1 else bytes) (file_or-append none role files file)

-- what a role that is read has left after a file was put
placed_left : (f : Role × List ℕ) (old new : MemHost) → Places f.0 f.1 old new → (role : Role) → IsRead role
    → left_bytes new role ≡ (if is_role f.0 role then f.1 else left_bytes old role)
placed_left f old new p role is = ap (λ (left : Option (List ℕ)). unwrap_or left []) (p.left role is)

placed_written : (f : Role × List ℕ) (old new : MemHost) → Places f.0 f.1 old new → (role : Role) → mem_written new role ≡ mem_written old role
placed_written f old new p Conf = refl
placed_written f old new p Capture = refl
placed_written f old new p Script = refl
placed_written f old new p GivenTrace = refl
placed_written f old new p GivenReplies = refl
placed_written f old new p Other = refl
placed_written f old new p Replies = rw p.replies refl
placed_written f old new p Trace = rw p.trace refl
placed_written f old new p Played = rw p.played refl

placed_room : (f : Role × List ℕ) (old new : MemHost) → Places f.0 f.1 old new → (role : Role) → room_left new role ≡ room_left old role
placed_room f old new p Conf = refl
placed_room f old new p Capture = refl
placed_room f old new p Script = refl
placed_room f old new p GivenTrace = refl
placed_room f old new p GivenReplies = refl
placed_room f old new p Other = refl
placed_room f old new p Replies = rw p.replies refl
placed_room f old new p Trace = rw p.trace refl
placed_room f old new p Played = rw p.played refl

pub filling_next : (all rest : List (Role × List ℕ)) (f : Role × List ℕ) (first old new : MemHost)
    → Filling all (rest ++ f ∷ []) first old → Places f.0 f.1 old new → Filling all rest first new
filling_next all rest f first old new filling p = record {
  files = λ role is. ap (λ (none : List ℕ). file_or none role rest) (placed_left f old new p role is) ∙ sym (file_or-append (left_bytes old role) role rest f) ∙ filling.files role is;
  fresh = λ contents capacity refused start.
      let fresh = filling.fresh contents capacity refused start in
      record {
        left = λ role is. p.left role is ∙ ap (λ (l : List ℕ). Some l) (sym (placed_left f old new p role is));
        written = λ role is. placed_written f old new p role ∙ fresh.written role is;
        room = λ role is. placed_room f old new p role ∙ fresh.room role is;
        attached = λ role. p.attached role (fresh.attached role);
        calls = p.calls ∙ fresh.calls;
        fail = rw p.fail fresh.fail;
        reading = rw p.faults fresh.reading;
        writing = rw p.faults fresh.writing;
      };
}

pub filling_done : (all : List (Role × List ℕ)) (first m : MemHost) → Filling all [] first m → Fills all first m
filling_done all first m filling = record {
  fresh = λ contents capacity refused start.
      let fresh = filling.fresh contents capacity refused start in
      record {
        left = λ role is. fresh.left role is ∙ ap (λ (l : List ℕ). Some l) (filling.files role is ∙ ap (λ (none : List ℕ). file_or none role all) (fresh_left contents capacity refused first start role is));
        written = fresh.written;
        room = fresh.room;
        attached = fresh.attached;
        calls = fresh.calls;
        fail = fresh.fail;
        reading = fresh.reading;
        writing = fresh.writing;
      };
}
