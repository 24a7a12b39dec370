-- Reports as JSON values, and their texts. The members of an object stand in the byte order of their names.
use Rattle.std.specs.Prelude.{◌≡◌, ◌≤◌, ◌==◌, ℕ, List, [], ◌∷◌, ◌++◌, Bool, true, false, not, if◌then◌else◌, map, codes, slice_get, unwrap_or, Option, None, Some, Ok}
use Rattle.std.specs.List.{filter, zip}
use Rattle.serde_json.specs.Data.{Data, Members, number, unsigned, boolean, string, array, object, item, no_items, member, no_members, depth, put as with_member}
use Rattle.serde_json.specs.Read.{max_depth}
use Rattle.serde_json.specs.View.{items_of}
use Rattle.serde_json.specs.Written.{compact_text}
use Rattle.decl_base.specs.Fraction.{Fraction}
use Rattle.template_core.specs.Constraints.{arity}
use Rattle.template_core.specs.declared.constraint.Constraint.{Constraint}
use Rattle.template_core.specs.declared.repertoire.Repertoire.{Repertoire}
use Rattle.template_core.specs.declared.repertoire.Repertoire.TheVariants.{Second}
use Rattle.template_set.specs.Names.{name_of}
use Rattle.model_json.specs.Model.{json_of}
use Rattle.scoring.specs.declared.scored.Scored.{Scored}
use Rattle.reduce_model.specs.Deciding.{is_kept}
use Rattle.reduce_model.specs.Sifting.{Sifting}
use Rattle.reduce_model.specs.declared.decision.Decision.{Decision}
use Rattle.reduce_model.specs.declared.decision.Decision.TheVariants.{Kept, Conflict, Weaker, FirstPass, SecondPass, Beyond, Untested}

-- ---- a constraint

-- a score is a list of its numerator and its denominator
abbrev pub fraction_value : Fraction → Data
fraction_value f = array (item (number (unsigned f.num)) (item (number (unsigned f.den)) no_items))

-- the name with this rank
abbrev pub name_at : List (List ℕ) → ℕ → List ℕ
name_at names rank = unwrap_or (slice_get names rank) []

-- the activities that are put in, by their ranks
abbrev pub activities_of : Constraint → List ℕ
activities_of c = if arity c.kind == 1 then c.first ∷ [] else c.first ∷ c.second ∷ []

-- a list with one name
abbrev pub parameter_value : List (List ℕ) → ℕ → Data
parameter_value names rank = array (item (string (name_at names rank)) no_items)

abbrev pub parameters_value : List (List ℕ) → Constraint → Data
parameters_value names c = array (items_of (map (parameter_value names) (activities_of c)))

-- a constraint without its scores
abbrev pub constraint_value : List (List ℕ) → Constraint → Data
constraint_value names c = object
    (member (codes "parameters") (parameters_value names c)
    (member (codes "template") (string (name_of c.kind)) no_members))

-- the members of a constraint with its scores, before those that come behind them
abbrev pub scored_members : List (List ℕ) → Scored → Members → Members
scored_members names s more =
    member (codes "confidence") (fraction_value s.confidence)
    (member (codes "interest") (fraction_value s.interest)
    (member (codes "parameters") (parameters_value names s.constraint)
    (member (codes "support") (fraction_value s.support)
    (member (codes "template") (string (name_of s.constraint.kind)) more))))

abbrev pub scored_value : List (List ℕ) → Scored → Data
scored_value names s = object (scored_members names s no_members)

-- a trace is a list of names
abbrev pub trace_value : List (List ℕ) → List ℕ → Data
trace_value names trace = array (items_of (map (λ rank. string (name_at names rank)) trace))

-- an object with one more member
abbrev pub with_more : List ℕ → Data → Data → Data
with_more key value (object members) = object (with_member key value members)
with_more key value other = other

-- a constraint with the trace that breaks it alone
abbrev pub witnessed_value : List (List ℕ) → Scored → List ℕ → Data
witnessed_value names s witness = object (scored_members names s (member (codes "witness") (trace_value names witness) no_members))

-- a constraint that is untested
abbrev pub untested_value : List (List ℕ) → Scored → Data
untested_value names s = object (scored_members names s (member (codes "untested") (boolean true) no_members))

-- with the trace that breaks it alone, or untested where there is none
abbrev pub listed_value : List (List ℕ) → Scored → Option (List ℕ) → Data
listed_value names s (Some witness) = witnessed_value names s witness
listed_value names s None = untested_value names s

-- ---- what stays and what is dropped

-- it stays, and a trace breaks it alone
abbrev pub is_tested : Decision → Bool
is_tested Kept = true
is_tested decision = false

-- the candidates whose decision passes, with it, in their order
abbrev pub decided : (Decision → Bool) → List Scored → List Decision → List (Scored × Decision)
decided passes list decisions = filter (λ p. passes p.1) (zip list decisions)

-- the candidates that stay
abbrev pub staying : List Scored → List Decision → List Scored
staying list decisions = map (λ p. p.0) (decided is_kept list decisions)

-- the same with their witnesses: each that is tested has the next one, and an untested one has none
abbrev pub with_witnesses : List Scored → List Decision → List (List ℕ) → List (Scored × Option (List ℕ))
with_witnesses (s ∷ list) (Kept ∷ decisions) (witness ∷ witnesses) = (s, Some witness) ∷ with_witnesses list decisions witnesses
with_witnesses (s ∷ list) (Untested ∷ decisions) witnesses = (s, None) ∷ with_witnesses list decisions witnesses
with_witnesses (s ∷ list) (decision ∷ decisions) witnesses = with_witnesses list decisions witnesses
with_witnesses list decisions witnesses = []

-- the last member of a dropped constraint
abbrev pub why : List ℕ → Members
why reason = member (codes "why") (string reason) no_members

-- a candidate of the list with what its decision tells: why it is dropped, and for a weaker one the constraint that is above it
abbrev pub decided_value : List (List ℕ) → List Scored → Scored → Decision → Data
decided_value names list s Kept = scored_value names s
decided_value names list s Conflict = object (scored_members names s (why (codes "conflict")))
decided_value names list s (Weaker by) = object
    (member (codes "by") (constraint_value names (unwrap_or (slice_get list by) s).constraint) (scored_members names s (why (codes "weaker"))))
decided_value names list s FirstPass = object (scored_members names s (why (codes "first-pass")))
decided_value names list s SecondPass = object (scored_members names s (why (codes "second-pass")))
decided_value names list s Beyond = object (scored_members names s (why (codes "beyond")))
decided_value names list s Untested = untested_value names s

abbrev pub dropped_values : List (List ℕ) → List Scored → List Decision → List Data
dropped_values names list decisions = map (λ p. decided_value names list p.0 p.1) (decided (λ d. not (is_kept d)) list decisions)

-- ---- whole reports, of the names, the candidates with their scores, and the numbers of traces and events

-- the members of a report of stage `scores`
abbrev pub scores_object : List Data → ℕ → List Data → ℕ → Data
scores_object constraints events tasks traces = object
    (member (codes "constraints") (array (items_of constraints))
    (member (codes "events") (number (unsigned events))
    (member (codes "tasks") (array (items_of tasks))
    (member (codes "traces") (number (unsigned traces)) no_members))))

-- the members of a report of the stages `consistent` and `model`
abbrev pub report_object : List Data → List Data → ℕ → Data → List Data → ℕ → Data
report_object constraints dropped events example tasks traces = object
    (member (codes "constraints") (array (items_of constraints))
    (member (codes "dropped") (array (items_of dropped))
    (member (codes "events") (number (unsigned events))
    (member (codes "example") example
    (member (codes "tasks") (array (items_of tasks))
    (member (codes "traces") (number (unsigned traces)) no_members))))))

-- a report of the second repertoire has a version
abbrev pub versioned : Repertoire → Data → Data
versioned Second (object members) = object (with_member (codes "version") (number (unsigned 2)) members)
versioned repertoire report = report

-- all candidates with their scores
abbrev pub scores_report : List (List ℕ) → Repertoire → List Scored → ℕ → ℕ → Data
scores_report names repertoire list traces events =
    versioned repertoire (scores_object (map (scored_value names) list) events (map string names) traces)

-- the candidates that stay where conflicts are removed, those that are dropped, and the least trace that keeps all that stay
abbrev pub consistent_report : List (List ℕ) → Repertoire → List Scored → Sifting → ℕ → ℕ → Data
consistent_report names repertoire list sifting traces events =
    versioned repertoire (report_object (map (scored_value names) (staying list sifting.decisions)) (dropped_values names list sifting.decisions)
    events (trace_value names sifting.example) (map string names) traces)

-- the candidates that stay, each with its witness or untested, those that are dropped, and the least trace that keeps all that stay
abbrev pub model_report : List (List ℕ) → Repertoire → List Scored → List Decision → List (List ℕ) → List ℕ → ℕ → ℕ → Data
model_report names repertoire list decisions witnesses example traces events =
    versioned repertoire (report_object (map (λ p. listed_value names p.0 p.1) (with_witnesses list decisions witnesses)) (dropped_values names list decisions)
    events (trace_value names example) (map string names) traces)

-- ---- texts

-- the value with no space, and a line feed
abbrev pub report_text : Data → List ℕ
report_text value = compact_text value ++ (10 ∷ [])

-- a line that reads as the value, unless it nests too deep to be read
abbrev pub IsLineOf : Data → List ℕ → Type 0
IsLineOf value bytes = (text : List ℕ) × (bytes ≡ text ++ (10 ∷ [])) × (depth value ≤ max_depth → json_of bytes ≡ Ok value)
