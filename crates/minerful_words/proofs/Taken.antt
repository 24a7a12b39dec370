-- What a command finds, from what `clap` says of the words.
use Rattle.std.proofs.Common.{◌≡◌, List, [], ◌∷◌, Ok, Err, refl, Bool, true, false, ◌&&◌}
use Rattle.clap.specs.Words.{App, Row, Text, Kinds, IsAmong, fault_of, matches_of, is_simple, is_simple_and_free}
use Rattle.clap.specs.Faults.{is_free_app}
use Rattle.clap.specs.Simple.{built}
use Rattle.clap.specs.declared.error.kind.ErrorKind.{ErrorKind}
use Rattle.minerful_words.specs.Apps.{rows_unless, taken}

pub taken-none : (app : App) (words : List Text) (rows : List Row) → fault_of app words ≡ [] → rows ≡ matches_of app words → taken app words ≡ Ok rows
unfolding taken
taken-none app words rows none same = rw (none, same) refl

rows_unless-some : (kinds : Kinds) (kind : ErrorKind) (rows : List Row) → IsAmong kind kinds → rows_unless kinds rows ≡ Err 1
rows_unless-some [] kind rows h = absurd h
rows_unless-some (k ∷ ks) kind rows h = refl

pub taken-some : (app : App) (words : List Text) (kind : ErrorKind) → IsAmong kind (fault_of app words) → taken app words ≡ Err 1
unfolding taken
taken-some app words kind h = rows_unless-some (fault_of app words) kind (matches_of app words) h

first_part : (a b : Bool) → (a && b) ≡ true → a ≡ true
first_part true b h = refl
first_part false b h = h

pub simple-from_free : (app : App) → is_simple_and_free app ≡ true → is_simple app ≡ true
simple-from_free app h = first_part (is_simple app) (is_free_app (built app)) h
