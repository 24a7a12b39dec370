-- The records that were read so far are the first of all the records.
use Rattle.std.proofs.Common.{◌≡◌, ℕ, suc, ◌+◌, ◌<◌, ◌≤◌, List, [], ◌∷◌, ◌++◌, length, Some, None, Bool, true, false, cond, refl, ap, ◌∙◌, arith, append-nil, ◌-◌}
use Rattle.csv.specs.Machine.{Read, next_record, step, is_end, ends_at_end, fields_after, field_after}
use Rattle.csv.specs.Reading.{Reached, records, records_from}
use Rattle.csv.specs.declared.parser.Config.{Config}
use Rattle.csv.specs.declared.parser.State.{State}
use Rattle.csv.specs.declared.parser.State.TheVariants as st

pub records-prefix : (cfg : Config) (n : ℕ) (s s2 : State) (xs ys : List ℕ) (rows : List (List (List ℕ)))
    → Reached cfg s xs rows s2 ys → records_from cfg (length rows + n) s xs ≡ rows ++ records_from cfg n s2 ys
unfolding Reached records_from
records-prefix cfg n s s2 xs ys [] h = rw (h.0, h.1) (grind arith)
records-prefix cfg n s s2 xs ys (r ∷ rs) h =
    let e : length (r ∷ rs) + n ≡ suc (length rs + n) = omega arith in
    rw (e, h.1, h.2) (ap (λ l. h.0.0 ∷ l) (records-prefix cfg n h.0.1 s2 h.0.2 ys rs h.3))

-- the state after the end of a record is one at which the text may end
ends : (cfg : Config) (s : State) (c : ℕ) → is_end (step cfg s c).1 ≡ true → ends_at_end (step cfg s c).0 ≡ false
ends cfg st.StartRecord c e = grind arith
ends cfg st.StartField c e = grind arith
ends cfg st.InField c e = grind arith
ends cfg st.InQuoted c e = grind arith
ends cfg st.InEscape c e = grind arith
ends cfg st.AfterQuote c e = grind arith
ends cfg st.InComment c e = grind arith
ends cfg st.AfterCr c e = grind arith

-- a read takes no more than there is
pub no_longer : (cfg : Config) (xs : List ℕ) (s : State) (fields : List (List ℕ)) (field : List ℕ) (p : Read)
    → next_record cfg s fields field xs ≡ Some p → (length p.2 ≤ length xs) × (0 < length xs → length p.2 < length xs) × (ends_at_end s ≡ false → 0 < length xs) × (ends_at_end p.1 ≡ false)
unfolding next_record
no_longer cfg [] s fields field p = go (ends_at_end s)
  where
    go : (b : Bool) → cond b (Some (fields ++ (field ∷ []), st.StartRecord, [])) None ≡ Some p
        → (length p.2 ≤ 0) × (0 < 0 → length p.2 < 0) × (b ≡ false → 0 < 0) × (ends_at_end p.1 ≡ false)
    go true e = grind arith
    go false e = absurd (cc)
no_longer cfg (c ∷ rest) s fields field p = go (is_end (step cfg s c).1) refl (no_longer cfg rest (step cfg s c).0 (fields_after (step cfg s c).1 fields field) (field_after (step cfg s c).1 c field) p)
  where
    again : Type 0
    again = next_record cfg (step cfg s c).0 (fields_after (step cfg s c).1 fields field) (field_after (step cfg s c).1 c field) rest ≡ Some p

    go : (b : Bool) → is_end (step cfg s c).1 ≡ b
        → (next_record cfg (step cfg s c).0 (fields_after (step cfg s c).1 fields field) (field_after (step cfg s c).1 c field) rest ≡ Some p
        → (length p.2 ≤ length rest) × (0 < length rest → length p.2 < length rest) × (ends_at_end (step cfg s c).0 ≡ false → 0 < length rest) × (ends_at_end p.1 ≡ false))
        → cond b (Some (fields_after (step cfg s c).1 fields field, (step cfg s c).0, rest)) (next_record cfg (step cfg s c).0 (fields_after (step cfg s c).1 fields field) (field_after (step cfg s c).1 c field) rest) ≡ Some p
        → (length p.2 ≤ suc (length rest)) × (0 < suc (length rest) → length p.2 < suc (length rest)) × (ends_at_end s ≡ false → 0 < suc (length rest)) × (ends_at_end p.1 ≡ false)
    go true is h e = let done = ends cfg s c is in grind arith
    go false is h e = let k = h e in (omega (arith, k.0), λ _. omega (arith, k.0), λ _. omega arith, k.3)

-- the records so far take no more bytes than there are
pub left_over : (cfg : Config) (s s2 : State) (xs ys : List ℕ) (rows : List (List (List ℕ))) → ends_at_end s ≡ false → Reached cfg s xs rows s2 ys
    → (length rows + length ys ≤ length xs) × (ends_at_end s2 ≡ false)
unfolding Reached
left_over cfg s s2 xs ys [] start h = (rw h.1 (omega arith), rw (← h.0) start)
left_over cfg s s2 xs ys (r ∷ rs) start h =
    let one = no_longer cfg xs s [] [] h.0 h.1 in
    let rest = left_over cfg h.0.1 s2 h.0.2 ys rs one.3 h.3 in
    let less = one.1 (one.2 start) in
    (omega (arith, rest.0, less), rest.1)

-- all the records are those so far, and then those of what is left
pub records_so_far : (cfg : Config) (s2 : State) (xs ys : List ℕ) (rows : List (List (List ℕ))) → Reached cfg st.StartRecord xs rows s2 ys
    → (n : ℕ) × (records cfg xs ≡ rows ++ records_from cfg (suc n) s2 ys)
records_so_far cfg s2 xs ys rows h =
    let room = left_over cfg st.StartRecord s2 xs ys rows refl h in
    let n = length xs - length rows in
    let e : length xs + 1 ≡ length rows + suc n = omega (arith, room.0) in
    (n, rw e (records-prefix cfg (suc n) st.StartRecord s2 xs ys rows h))

-- at the end, they are those so far
pub records_at_end : (cfg : Config) (s2 : State) (xs ys : List ℕ) (rows : List (List (List ℕ))) → Reached cfg st.StartRecord xs rows s2 ys
    → next_record cfg s2 [] [] ys ≡ None → records cfg xs ≡ rows
unfolding records_from
records_at_end cfg s2 xs ys rows h none =
    let far = records_so_far cfg s2 xs ys rows h in
    far.1 ∙ rw none (append-nil rows)
