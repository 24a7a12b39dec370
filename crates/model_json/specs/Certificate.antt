-- The certificate that a JSON value is, part by part: the first part that isn't of its form is the refusal.
use Rattle.std.specs.Prelude.{◌≡◌, ◌⊎◌, ℕ, ◌^◌, ◌==◌, ◌&&◌, ◌||◌, List, [], ◌∷◌, Bool, true, false, if◌then◌else◌, nat_le, nat_lt, codes, length, All, position, slice_index_or, Option, None, Some, option_map, option_and_then, unwrap_or, Result, Ok, Err}
use Rattle.std.specs.Cmp.Lexicographic.{slice_cmp}
use Rattle.std.specs.List.{flat_map, list_all}
use Rattle.std.specs.Option.{ok_or}
use Rattle.std.specs.Ordering.{is_lt, nat_cmp}
use Rattle.std.specs.Str.{bytes_eq}
use Rattle.serde_json.specs.Data.{Data}
use Rattle.serde_json.specs.Find.{get, as_str, as_number, as_u64, is_float}
use Rattle.decl_base.specs.Limits.{standard}
use Rattle.decl_base.specs.declared.refusal.Refusal.{Refusal}
use Rattle.decl_base.specs.declared.refusal.Refusal.TheVariants.{NotJson, CertShape, Memory}
use Rattle.event_log.specs.Logs.{first_seen}
use Rattle.template_core.specs.declared.constraint.Constraint.{Constraint}
use Rattle.template_core.specs.declared.repertoire.Repertoire.{Repertoire}
use Rattle.template_core.specs.declared.repertoire.Repertoire.TheVariants.{First, Second}
use Rattle.chain_cert.specs.Forms.{FitLinks, IsAscending, IsChain, IsLink}
use Rattle.chain_cert.specs.Parts.{ChainParts, ClaimParts, LinkParts, chain_parts, claim_parts, link_parts}
use Rattle.chain_cert.specs.declared.claim.Dropped.{Dropped}
use Rattle.model_json.specs.Model.{◌>>=◌, each, list_in, texts_in, item_read, json_of}

-- ---- lists of numbers

-- what is read of the elements of a list, where something is read of each
abbrev pub list_of : {A : Type 0} → (Data → Option A) → Data → Option (List A)
list_of f value = option_and_then (each f) (list_in value)

-- the same of a member
abbrev pub list_under : {A : Type 0} → (Data → Option A) → List ℕ → Data → Option (List A)
list_under f name value = option_and_then (list_of f) (get name value)

-- a whole number below 2^32
abbrev pub number_in : Data → Option ℕ
number_in value = option_and_then (λ n. if nat_lt n (2 ^ 32) then Some n else None) (option_and_then as_u64 (as_number value))

-- 1 or 0
abbrev pub mark_in : Data → Option Bool
mark_in value = option_and_then (λ n. if n == 1 then Some true else (if n == 0 then Some false else None)) (number_in value)

-- so many numbers
abbrev pub tuple_in : ℕ → Data → Option (List ℕ)
tuple_in count value = option_and_then (λ numbers. if length numbers == count then Some numbers else None) (list_of number_in value)

-- ---- the first part: the report, its version and its tasks

-- the second repertoire where a version is the whole number 2; one that is no whole number is read past
abbrev pub version_in : Data → Option Repertoire
version_in version =
    unwrap_or (option_map (λ n. if is_float n then Some First else option_and_then (λ whole. if whole == 2 then Some Second else None) (as_u64 n)) (as_number version)) (Some First)

-- the first repertoire where there is no version
abbrev pub version_of : Data → Option Repertoire
version_of report = unwrap_or (option_map version_in (get (codes "version") report)) (Some First)

-- each name is before the next in the order of bytes
abbrev pub ascend : List (List ℕ) → Bool
ascend [] = true
ascend (name ∷ []) = true
ascend (name ∷ next ∷ names) = is_lt (slice_cmp nat_cmp name next) && ascend (next ∷ names)

-- texts as names: no more than the limit, none of them twice, and ascending
abbrev pub names_of : List (List ℕ) → Option (List (List ℕ))
names_of texts =
    if nat_le (length texts) standard.activities && (length (first_seen texts) == length texts) && ascend (first_seen texts) then Some (first_seen texts) else None

-- a report, its repertoire and its names
pub record Told : Type 0 where
  pub report : Data
  pub repertoire : Repertoire
  pub names : List (List ℕ)

abbrev pub told : Data → Repertoire → List (List ℕ) → Told
told report repertoire names = record { report = report; repertoire = repertoire; names = names }

abbrev pub told_by : Data → Option Told
told_by report =
    option_and_then (λ repertoire. option_map (told report repertoire)
    (option_and_then names_of (option_and_then texts_in (get (codes "tasks") report))))
    (version_of report)

abbrev pub told_in : Data → Option Told
told_in certificate = option_and_then told_by (get (codes "report") certificate)

-- ---- the second part: the constraints, each with its witness

-- a trace of names, by their places
abbrev pub trace_in : List (List ℕ) → Data → Option (List ℕ)
trace_in names value = list_of (λ text. option_and_then (λ name. position (bytes_eq name) names) (as_str text)) value

-- the constraint that an item is in a model with these names, where it has no name besides
abbrev pub without_new : List (List ℕ) → Result (Constraint × List (List ℕ)) Refusal → Option Constraint
without_new names (Ok read) = if length read.1 == length names then Some read.0 else None
without_new names (Err refusal) = None

abbrev pub constraint_in : Repertoire → List (List ℕ) → Data → Option Constraint
constraint_in repertoire names item = without_new names (item_read repertoire 1 names item)

abbrev pub witness_in : List (List ℕ) → Data → Option (List ℕ)
witness_in names item = option_and_then (trace_in names) (get (codes "witness") item)

-- the items of a member, no more than a model may have
abbrev pub items_under : List ℕ → Data → Option (List Data)
items_under name report =
    option_and_then (λ items. if nat_le (length items) standard.candidates then Some items else None) (option_and_then list_in (get name report))

abbrev pub kept_in : Told → Option (List Constraint × List (List ℕ))
kept_in told =
    option_and_then (λ items. option_and_then (λ constraints. option_map (λ witnesses. (constraints, witnesses))
    (each (witness_in told.names) items))
    (each (constraint_in told.repertoire told.names) items))
    (items_under (codes "constraints") told.report)

-- ---- the third part: the dropped constraints, each with its reason

-- whether the reason is a conflict
abbrev pub conflict_by : List ℕ → Option Bool
conflict_by reason =
    if bytes_eq reason (codes "conflict") then Some true else
    (if bytes_eq reason (codes "weaker") || bytes_eq reason (codes "first-pass") || bytes_eq reason (codes "second-pass") then Some false else None)

abbrev pub dropped_by : Repertoire → List (List ℕ) → Data → Option Dropped
dropped_by repertoire names item =
    option_and_then (λ constraint. option_map (λ conflict. record { constraint = constraint; conflict = conflict })
    (option_and_then conflict_by (option_and_then as_str (get (codes "why") item))))
    (constraint_in repertoire names item)

abbrev pub dropped_in : Told → Option (List Dropped)
dropped_in told = option_and_then (each (dropped_by told.repertoire told.names)) (items_under (codes "dropped") told.report)

-- ---- the fourth part: the example; and what the four say

abbrev pub example_in : Told → Option (List ℕ)
example_in told = option_and_then (trace_in told.names) (get (codes "example") told.report)

abbrev pub claim_told : Told → Result ClaimParts Refusal
claim_told told = do
  kept ← ok_or (kept_in told) (CertShape 2)
  dropped ← ok_or (dropped_in told) (CertShape 3)
  example ← ok_or (example_in told) (CertShape 4)
  Ok (claim_parts (length told.names) kept.0 kept.1 dropped example)

abbrev pub claim_of : Data → Result ClaimParts Refusal
claim_of certificate = ok_or (told_in certificate) (CertShape 1) >>= claim_told

-- ---- the fifth part: a link for each constraint

-- rows one after the other: one for each state, and all of one width
abbrev pub joined : ℕ → List (List ℕ) → Option (List ℕ)
joined states rows =
    if (length rows == states) && list_all (λ row. length row == length (slice_index_or rows 0 [])) rows then Some (flat_map (λ row. row) rows) else None

abbrev pub link_in : Data → Option LinkParts
link_in value =
    option_and_then (λ accepting. option_and_then (λ columns. option_and_then (λ next. option_map (λ pairs. link_parts accepting columns next pairs)
    (list_under (tuple_in 3) (codes "pairs") value))
    (option_and_then (joined (length accepting)) (list_under (list_of number_in) (codes "next") value)))
    (list_under number_in (codes "columns") value))
    (list_under mark_in (codes "accepting") value)

-- the links of a certificate, in form for what it claims
pub record AreLinks (certificate : Data) (claim : ClaimParts) (links : List LinkParts) : Type 0 where
  pub read : list_under link_in (codes "chain") certificate ≡ Some links
  pub each_made : All IsLink links
  pub fit : FitLinks claim links

-- ---- the sixth part: pairs for each dropped constraint

pub record ArePairs (certificate : Data) (claim : ClaimParts) (links : List LinkParts) (implied : List (List (List ℕ))) : Type 0 where
  pub read : list_under (list_of (tuple_in 2)) (codes "implied") certificate ≡ Some implied
  pub each_made : All IsAscending implied
  pub fit : IsChain claim (chain_parts links implied)

-- ---- the certificate of a value and of bytes

-- the value is a certificate with this claim and this chain
pub record IsCertificate (certificate : Data) (claim : ClaimParts) (chain : ChainParts) : Type 0 where
  pub claimed : claim_of certificate ≡ Ok claim
  pub linked : AreLinks certificate claim chain.links
  pub paired : ArePairs certificate claim chain.links chain.implied

-- the fifth part, or the sixth, is the first that isn't of its form
abbrev pub HasNoLinks : Data → ClaimParts → Type 0
HasNoLinks certificate claim = (links : List LinkParts) → AreLinks certificate claim links → ⊥

abbrev pub HasNoPairs : Data → ClaimParts → List LinkParts → Type 0
HasNoPairs certificate claim links = (implied : List (List (List ℕ))) → ArePairs certificate claim links implied → ⊥

-- the first part that isn't of its form has this number
abbrev pub FailsFirst : Data → ℕ → Type 0
FailsFirst certificate part =
    (claim_of certificate ≡ Err (CertShape part))
    ⊎ ((claim : ClaimParts) × (claim_of certificate ≡ Ok claim)
    × (((part ≡ 5) × HasNoLinks certificate claim)
    ⊎ ((links : List LinkParts) × AreLinks certificate claim links × ((part ≡ 6) × HasNoPairs certificate claim links))))

-- the bytes are a certificate
pub record IsCertificateText (bytes : List ℕ) (claim : ClaimParts) (chain : ChainParts) : Type 0 where
  pub value : Data
  pub reads : json_of bytes ≡ Ok value
  pub is : IsCertificate value claim chain

-- why they are none, or want of memory
abbrev pub CertificateCause : List ℕ → Refusal → Type 0
CertificateCause bytes Memory = Unit {0}
CertificateCause bytes NotJson = json_of bytes ≡ Err NotJson
CertificateCause bytes (CertShape part) = (value : Data) × (json_of bytes ≡ Ok value) × FailsFirst value part
CertificateCause bytes other = ⊥
