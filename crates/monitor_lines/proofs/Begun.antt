-- The case of a line: it is there, or it begins.
use Rattle.std.proofs.Common.{◌≡◌, ℕ, zero, suc, ◌<◌, ◌≤◌, List, [], ◌∷◌, ◌++◌, Bool, true, false, cond, decimal, get_or, ltb, not, None, Some, length, map, refl, sym, ap, ap₂, subst, ◌∙◌, arith, Bor, String, string_bytes}
use Rattle.std.specs.List.{position, position_or_len}
use Rattle.std.specs.Str.{bytes_eq, is_utf8}
use Rattle.std.specs.declared.alloc.Global.{Global}
use Rattle.std.proofs.lemmas.Bool.{le-ltb, lt-ltb}
use Rattle.std.proofs.lemmas.Bool.Decides.{nat_tests}
use Rattle.std.proofs.lemmas.List.Sums.{prefix_len-le-length}
use Rattle.std.proofs.lemmas.Str.Pattern.{IsSplitOnceResult, split_once_first}
use Rattle.decl_base.specs.declared.limits.Limits.{Limits}
use Rattle.decl_base.specs.declared.refusal.Refusal.{Refusal}
use Rattle.decl_base.specs.declared.refusal.Refusal.TheVariants as refusal
use Rattle.decl_outside.specs.Lines.{LineValue}
use Rattle.event_log.specs.Alphabet.{Names}
use Rattle.event_log.specs.Logs.{has_name, place_of, with_name}
use Rattle.event_log.proofs.Appearing.{place-with_name, with_name-known, with_name-new}
use Rattle.event_log.proofs.Naming.{kept, position-is, position-none}
use Rattle.live_monitor.specs.Stands.{IsMonitor, StandsFor, case_count, constraints_of, symbols_of}
use Rattle.live_monitor.specs.declared.standing.Standing.{Standing}
use Rattle.monitor_lines.specs.Cases.{event_of, has_tab, is_tab, symbol_count}
use Rattle.monitor_lines.specs.LineText.{letter, letters, line_text, quoted}
use Rattle.monitor_lines.specs.Stepping.{CaseCause, HasCase, IsReady, LineCause, TakesLine, begun, stepped}
use Rattle.monitor_lines.specs.declared.cases.Cases.{Cases}

-- ---- whether the case is there

position-below : {X : Type 0} (p : X → Bool) (xs : List X) (i : ℕ) → Some i ≡ position p xs → i < length xs
position-below p xs i h =
    elim (ltb (position_or_len p xs) (length xs)) as (λ v. ltb (position_or_len p xs) (length xs) ≡ v → Some i ≡ cond v (Some (position_or_len p xs)) None → i < length xs) [
      | true ↦ λ e k. let same : i ≡ position_or_len p xs = cc in grind (arith, nat_tests)
      | false ↦ λ e k. absurd (cc)
    ] refl h

pub there : (found : List (List ℕ)) (name : List ℕ) (id : ℕ) → Some id ≡ position (bytes_eq name) found → has_name found name ≡ true
there found name id at = go (has_name found name) refl
  where
    same : with_name found name ≡ found
    same = with_name-known found name (omega (arith, position-is (bytes_eq name) found id at, position-below (bytes_eq name) found id at))

    go : (b : Bool) → has_name found name ≡ b → has_name found name ≡ true
    go true e = e
    go false e = absurd (omega (arith, ap length same, with_name-new found name e))

pub missed : (found : List (List ℕ)) (name : List ℕ) → None ≡ position (bytes_eq name) found → has_name found name ≡ false
missed found name none = go (has_name found name) refl
  where
    go : (b : Bool) → has_name found name ≡ b → has_name found name ≡ false
    go false e = e
    go true e = absurd (omega (
      arith,
      position-none (bytes_eq name) found none,
      (place-with_name found name).0,
      ap (λ b. length (cond b found (found ++ name ∷ []))) e,
    ))

-- ---- the case that is there, and the one that begins

pub HasCase-there : (cases : Cases) (case : List ℕ) → has_name cases.found.names case ≡ true → IsReady cases → HasCase cases cases case
HasCase-there cases case known ready = record {
  found = kept cases.found case (sym known);
  ready = ready;
  symbols = refl;
  constraints = refl;
  stands = λ traces h. subst (λ b. StandsFor cases.monitor (cond b traces (traces ++ [] ∷ []))) (sym known) h;
}

-- ---- the tab of a line

pub tab-missed : (text line : List ℕ) → IsSplitOnceResult 9 text None → text ≡ line → has_tab line ≡ false
tab-missed text line none is =
    let at_end : position_or_len is_tab text ≡ length text = split_once_first 9 text None none (omega arith) in
    subst (λ l. has_tab l ≡ false) is (le-ltb (position_or_len is_tab text) (length text) (omega (arith, at_end)))

pub tab-found : (text line : List ℕ) (case name : Bor (List ℕ)) → IsSplitOnceResult 9 text (Some (case, name)) → text ≡ line
    → (has_tab line ≡ true) × (case.now ≡ (event_of line).case) × (name.now ≡ (event_of line).name)
tab-found text line case name found is =
    let parts = split_once_first 9 text (Some (case, name)) found (omega arith) in
    subst (λ l. (has_tab l ≡ true) × (case.now ≡ (event_of l).case) × (name.now ≡ (event_of l).name)) is
    (lt-ltb (position_or_len is_tab text) (length text) parts.0, parts.1, parts.2)

-- a name has a symbol, be it that of every other name
pub symbol-below : (names : List (List ℕ)) (name : List ℕ) → place_of names name < symbol_count names
symbol-below names name = omega (arith, prefix_len-le-length (λ n. not (bytes_eq name n)) names)

-- ---- a line that is taken

module _ (limits : Limits) (names : List (List ℕ)) (old mid new : Cases) (line : LineValue) (case name : List ℕ) (id symbol : ℕ)
    (tab : (has_tab line.bytes ≡ true) × (case ≡ (event_of line.bytes).case) × (name ≡ (event_of line.bytes).name)) (has : HasCase old mid case) where
  pub TakesLine-of : is_utf8 line.bytes ≡ true → line.number ≤ limits.events → id ≡ place_of old.found.names case → symbol ≡ place_of names name
      → new.found ≡ mid.found → new.texts ≡ mid.texts → case_count new.monitor ≡ case_count mid.monitor → symbols_of new.monitor ≡ symbols_of mid.monitor → constraints_of new.monitor ≡ constraints_of mid.monitor
      → IsMonitor new.monitor → ((traces : List (List ℕ)) → StandsFor mid.monitor traces → StandsFor new.monitor (stepped id symbol traces)) → TakesLine limits names old new line id
  TakesLine-of text few id_is symbol_is found texts count symbols constraints monitor stands = record {
    text = text;
    tab = tab.0;
    few = few;
    id_is = id_is ∙ ap (place_of old.found.names) tab.1;
    found = found ∙ has.found ∙ ap (λ c. names_within (with_name old.found.names c) old.found.limit) tab.1;
    ready = record {
      within = subst (λ (f : Names). length f.names ≤ f.limit) (sym found) has.ready.within;
      texts = ap (λ t. map string_bytes t.items) texts ∙ has.ready.texts ∙ ap (λ (f : Names). map quoted f.names) (sym found);
      count = count ∙ has.ready.count ∙ ap (λ (f : Names). length f.names) (sym found);
      monitor = monitor;
    };
    symbols = symbols ∙ has.symbols;
    constraints = constraints ∙ has.constraints;
    stands = λ traces h.
        subst (λ s. StandsFor new.monitor (stepped id s (begun old.found.names (event_of line.bytes).case traces))) (symbol_is ∙ ap (place_of names) tab.2)
        (subst (λ c. StandsFor new.monitor (stepped id symbol (begun old.found.names c traces))) tab.1 (stands (begun old.found.names case traces) (has.stands traces h)));
  }
    where
      names_within : List (List ℕ) → ℕ → Names
      names_within l n = record { names = l; limit = n }

-- a case without a number is the line's fault
pub no_case : (limits : Limits) (found : Names) (line : LineValue) (case : List ℕ) (r : Refusal) → found.limit ≡ limits.traces → is_utf8 line.bytes ≡ true → has_tab line.bytes ≡ true
    → case ≡ (event_of line.bytes).case → line.number ≤ limits.events → CaseCause found case r → LineCause limits found.names line r
no_case limits found line case (refusal.Traces n) limit text tab is few c =
    (c.0 ∙ limit, text, tab, few, omega (arith, c.1, limit), ap (has_name found.names) (sym is) ∙ c.2)
no_case limits found line case refusal.Memory limit text tab is few c = tt
no_case limits found line case _ limit text tab is few c = absurd c

-- ---- the text of a line

pub text_at : (texts : List (String Global)) (found : List (List ℕ)) (id : ℕ) (text : String Global) → map string_bytes texts ≡ map quoted found → id < length found → text ≡ get_or texts id text
    → string_bytes text ≡ quoted (get_or found id [])
text_at [] [] id text are inside is = absurd (omega arith)
text_at [] (c ∷ found) id text are inside is = absurd (cc)
text_at (t ∷ texts) [] id text are inside is = absurd (omega arith)
text_at (t ∷ texts) (c ∷ found) zero text are inside is = ap string_bytes is ∙ cc
text_at (t ∷ texts) (c ∷ found) (suc id) text are inside is = text_at texts found id text (cc) (omega arith) is

pub line_written : (number : ℕ) (case json : List ℕ) (whole : Standing) (each : List Standing) (byte : ℕ) (t0 t1 t2 t3 t4 t5 t6 t7 t8 : List ℕ) → t0 ≡ [] → t1 ≡ t0 ++ decimal number → t2 ≡ t1 ++ 32 ∷ []
    → t3 ≡ t2 ++ json → json ≡ case → t4 ≡ t3 ++ 32 ∷ [] → byte ≡ letter whole → t5 ≡ t4 ++ byte ∷ [] → t6 ≡ t5 ++ 32 ∷ [] → t7 ≡ t6 ++ letters each → t8 ≡ t7 ++ 10 ∷ []
    → t8 ≡ line_text number case whole each
line_written number case json whole each byte t0 t1 t2 t3 t4 t5 t6 t7 t8 e0 e1 e2 e3 is e4 byte_is e5 e6 e7 e8 =
    e8 ∙ ap (λ l. l ++ 10 ∷ []) (e7 ∙ ap (λ l. l ++ letters each) (e6 ∙ ap (λ l. l ++ 32 ∷ []) (e5 ∙ ap₂ (λ l b. l ++ b ∷ [])
    (e4 ∙ ap (λ l. l ++ 32 ∷ []) (e3 ∙ ap₂ (λ l t. l ++ t) (e2 ∙ ap (λ l. l ++ 32 ∷ []) (e1 ∙ ap (λ l. l ++ decimal number) e0)) is)) byte_is)))
