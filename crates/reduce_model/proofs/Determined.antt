-- The decisions of the reduction are determined, step by step.
use Rattle.std.proofs.Common.{◌≡◌, ◌↔◌, ℕ, zero, suc, ◌+◌, ◌<◌, ◌≤◌, inl, inr, List, [], ◌∷◌, ◌++◌, Bool, true, false, not, IsTrue, Some, length, map, take, drop, get_or, refl, sym, ap, ◌∙◌, arith}
use Rattle.std.specs.List.{AllByRecursion, slice_get}
use Rattle.std.proofs.lemmas.Bool.{cases_lt}
use Rattle.std.proofs.lemmas.Option.{get_or_from_slice_get, slice_get_within}
use Rattle.std.proofs.lemmas.List.{ext_get_or, get_or-map, length-map, take_all}
use Rattle.dfa_core.specs.Languages.{HasNoMember}
use Rattle.template_core.specs.declared.constraint.Constraint.{Constraint}
use Rattle.reduce_model.proofs.Marks.{Agree, IsBackward, IsForward, at_place, backward_same, forward_same, lacks, tells, true_or_false}
use Rattle.list_dfa.proofs.Keeping.{anything}
use Rattle.reduce_model.specs.Deciding.{as_sifted, is_at_limit, is_consistent, is_kept, is_left, is_strongest, marked}
use Rattle.reduce_model.specs.Keeping.{KeepsAll}
use Rattle.reduce_model.specs.Reduction.{Implies, IsFirstAbove, IsReduced, TellsConflicts, TellsFirstPass, TellsSecondPass, TellsWeaker}
use Rattle.reduce_model.specs.declared.decision.Decision.{Decision}
use Rattle.reduce_model.specs.declared.decision.Decision.TheVariants.{Kept, Conflict, Weaker, FirstPass, SecondPass, Beyond, Untested}

-- ---- each decision as the lack of a mark

-- it is none that a limit gives
abbrev pub is_told : Decision → Bool
is_told d = not (is_at_limit d)

told-all : (ds : List Decision) → AllByRecursion (λ (d : Decision). is_at_limit d ≡ false) ds → (place : ℕ) → place < length ds → get_or (map is_told ds) place false ≡ true
told-all [] h place lt = absurd (omega (arith, lt))
told-all (d ∷ ds) h zero lt = ap not h.0
told-all (d ∷ ds) h (suc place) lt = told-all ds h.1 place (omega (arith, lt))

-- the facts for which a mark lacks
abbrev pub Conflicts : ℕ → List Constraint → Constraint → Type 0
Conflicts n before c = HasNoMember n (KeepsAll (before ++ c ∷ []))

abbrev pub ImpliesWith : ℕ → List Constraint → List Bool → ℕ → List Constraint → Constraint → Type 0
ImpliesWith n list left place after c = Implies n (marked (take place left) (take place list) ++ after) c

-- the places where a decision has the mark
abbrev pub Has : (Decision → Bool) → List Decision → ℕ → Type 0
Has q ds place = get_or (map q ds) place false ≡ true

abbrev pub Always : ℕ → Type 0
Always place = Unit {0}

pub told-at : (ds : List Decision) → AllByRecursion (λ (d : Decision). is_at_limit d ≡ false) ds → (place : ℕ) (d : Decision) → slice_get ds place ≡ Some d → IsTrue (is_told d)
told-at ds none place d is =
    let lt = slice_get_within ds place d is in
    let ed : get_or ds place Kept ≡ d = get_or_from_slice_get ds place d Kept is in
    ap is_told (sym ed) ∙ (sym (get_or-map is_told ds place Kept false lt) ∙ told-all ds none place lt)

pub conflict-lacks : (d : Decision) → IsTrue (is_told d) → d ≡ Conflict ↔ is_consistent d ≡ false
conflict-lacks Conflict t = (λ e. refl, λ e. refl)
conflict-lacks Beyond t = cc
conflict-lacks Untested t = cc
conflict-lacks d t = (λ e. cc, λ e. cc)

pub first_pass-lacks : (d : Decision) → IsTrue (is_strongest d) → d ≡ FirstPass ↔ is_left d ≡ false
first_pass-lacks FirstPass s = (λ e. refl, λ e. refl)
first_pass-lacks d s = (λ e. cc, λ e. cc)

pub second_pass-lacks : (d : Decision) → IsTrue (is_left d) → d ≡ SecondPass ↔ is_kept d ≡ false
second_pass-lacks SecondPass s = (λ e. refl, λ e. refl)
second_pass-lacks d s = (λ e. cc, λ e. cc)

pub left-strongest : (d : Decision) → is_strongest d ≡ false → is_left d ≡ false
left-strongest Kept e = cc
left-strongest SecondPass e = cc
left-strongest Untested e = cc
left-strongest d e = refl

pub kept-left : (d : Decision) → is_left d ≡ false → is_kept d ≡ false
kept-left Kept e = cc
kept-left SecondPass e = cc
kept-left Untested e = cc
kept-left d e = refl

-- a read past the end
pub past : (p : Decision → Bool) (ds : List Decision) (place : ℕ) → length ds ≤ place → get_or (map p ds) place false ≡ false
past p [] place le = refl
past p (d ∷ ds) zero le = absurd (omega (arith, le))
past p (d ∷ ds) (suc place) le = past p ds place (omega (arith, le))

-- where two lists of decisions have no first mark alike, they have no second one
pub agree : (q p : Decision → Bool) (ds es : List Decision) → ((d : Decision) → q d ≡ false → p d ≡ false) → length ds ≡ length es → map q ds ≡ map q es → Agree (Has q ds) (map p ds) (map p es)
agree q p ds es none many same place = elim (true_or_false (get_or (map q ds) place false)) [
  | inl yes_ ↦ inl yes_
  | inr no_ ↦ elim (cases_lt place (length ds)) [
    | inl lt ↦
        let le : place < length es = omega arith in
        let nd : q (get_or ds place Kept) ≡ false = sym (get_or-map q ds place Kept false lt) ∙ no_ in
        let ne : q (get_or es place Kept) ≡ false = sym (get_or-map q es place Kept false le) ∙ (ap (λ (l : List Bool). get_or l place false) (sym same) ∙ no_) in
        inr (get_or-map p ds place Kept false lt ∙ (none (get_or ds place Kept) nd ∙ sym (get_or-map p es place Kept false le ∙ none (get_or es place Kept) ne)))
    | inr ge ↦ inr (past p ds place ge ∙ sym (past p es place (omega arith)))
  ]
]

mark-of : (p : Decision → Bool) (ds : List Decision) (place : ℕ) → place < length ds → get_or (map p ds) place false ≡ p (get_or ds place Kept)
mark-of p ds place lt = get_or-map p ds place Kept false lt

pub same-mark : (p : Decision → Bool) (ds es : List Decision) (place : ℕ) → place < length ds → place < length es → map p ds ≡ map p es → p (get_or ds place Kept) ≡ p (get_or es place Kept)
same-mark p ds es place ld le same = sym (mark-of p ds place ld) ∙ (ap (λ (l : List Bool). get_or l place false) same ∙ mark-of p es place le)

whole : (v u : List Bool) (bound : ℕ) → length v ≤ bound → length u ≤ bound → take bound v ≡ take bound u → v ≡ u
whole v u bound lv lu same = sym (take_all bound v lv) ∙ (same ∙ take_all bound u lu)

-- ---- conflicts

pub conflicts_forward : (n : ℕ) (list : List Constraint) (ds : List Decision) → length ds ≡ length list → AllByRecursion (λ (d : Decision). is_at_limit d ≡ false) ds → TellsConflicts n list ds
    → IsForward (Conflicts n) Always list (map is_consistent ds) (length list)
conflicts_forward n list ds many none told place lt q =
    lacks is_told is_consistent Conflict (λ (at : ℕ) (c : Constraint). Conflicts n (marked (take at (map is_consistent ds)) (take at list)) c) list ds conflict-lacks many (λ at c d is holds. told at c d is) place lt
    (told-all ds none place (omega arith))

pub forward_conflicts : (n : ℕ) (list : List Constraint) (ds : List Decision) → length ds ≡ length list → AllByRecursion (λ (d : Decision). is_at_limit d ≡ false) ds → IsForward (Conflicts n) Always list (map is_consistent ds) (length list)
    → TellsConflicts n list ds
forward_conflicts n list ds many none forward place c d at =
    tells is_told is_consistent Conflict (λ (at : ℕ) (c : Constraint). Conflicts n (marked (take at (map is_consistent ds)) (take at list)) c) list ds conflict-lacks many (λ place lt holds. forward place lt tt) place c d at
    (told-at ds none place d at.decision)

pub consistent_same : (n : ℕ) (list : List Constraint) (ds es : List Decision) → length ds ≡ length list → length es ≡ length list → AllByRecursion (λ (d : Decision). is_at_limit d ≡ false) ds → AllByRecursion (λ (d : Decision). is_at_limit d ≡ false) es → TellsConflicts n list ds → TellsConflicts n list es
    → map is_consistent ds ≡ map is_consistent es
consistent_same n list ds es md me nd ne td te =
    let ld = length-map ds is_consistent in
    let le = length-map es is_consistent in
    whole (map is_consistent ds) (map is_consistent es) (length list) (omega (arith, ld)) (omega (arith, le))
    (forward_same (Conflicts n) Always list (map is_consistent ds) (map is_consistent es) (length list) (omega (arith, ld)) (omega (arith, le)) (conflicts_forward n list ds md nd td) (conflicts_forward n list es me ne te) (λ place. inl tt))

-- ---- weaker ones

pub weaker_same : (list : List Constraint) (ds es : List Decision) → length ds ≡ length list → length es ≡ length list → map is_consistent ds ≡ map is_consistent es → TellsWeaker list ds → TellsWeaker list es
    → (place : ℕ) → place < length list → (by : ℕ) → get_or ds place Kept ≡ Weaker by → get_or es place Kept ≡ Weaker by
weaker_same list ds es md me same td te place lt by is =
    let d = get_or ds place Kept in
    let e = get_or es place Kept in
    let cd : is_consistent d ≡ true = ap is_consistent is in
    let ce : is_consistent e ≡ true = sym (same-mark is_consistent ds es place (omega arith) (omega arith) same) ∙ cd in
    let first : IsFirstAbove list (map is_consistent ds) (get_or list place anything) by = (td place (get_or list place anything) d by (at_place list ds place md lt) cd).0 is in
    (te place (get_or list place anything) e by (at_place list es place me lt) ce).1 (rw same at first)

strong_same : (d e : Decision) → is_consistent d ≡ is_consistent e → ((by : ℕ) → d ≡ Weaker by → e ≡ Weaker by) → ((by : ℕ) → e ≡ Weaker by → d ≡ Weaker by) → is_strongest d ≡ is_strongest e
strong_same (Weaker by) e c f g = ap is_strongest (sym (f by refl))
strong_same d (Weaker by) c f g = ap is_strongest (g by refl)
strong_same d e c f g = c

pub strongest_same : (list : List Constraint) (ds es : List Decision) → length ds ≡ length list → length es ≡ length list → map is_consistent ds ≡ map is_consistent es → TellsWeaker list ds → TellsWeaker list es
    → map is_strongest ds ≡ map is_strongest es
strongest_same list ds es md me same td te =
    let ld = length-map ds is_strongest in
    let le = length-map es is_strongest in
    ext_get_or false (map is_strongest ds) (map is_strongest es) (ld ∙ (md ∙ sym (le ∙ me))) (λ place lt.
    let in_list : place < length list = omega (arith, ld) in
    mark-of is_strongest ds place (omega arith) ∙ (strong_same (get_or ds place Kept) (get_or es place Kept) (same-mark is_consistent ds es place (omega arith) (omega arith) same)
    (weaker_same list ds es md me same td te place in_list) (weaker_same list es ds me md (sym same) te td place in_list)
    ∙ sym (mark-of is_strongest es place (omega arith))))

-- ---- first pass

pub first_pass_forward : (n : ℕ) (list : List Constraint) (ds : List Decision) → length ds ≡ length list → TellsFirstPass n list ds → IsForward (Implies n) (Has is_strongest ds) list (map is_left ds) (length list)
first_pass_forward n list ds many told =
    lacks is_strongest is_left FirstPass (λ (at : ℕ) (c : Constraint). Implies n (marked (take at (map is_left ds)) (take at list)) c) list ds first_pass-lacks many told

pub forward_first_pass : (n : ℕ) (list : List Constraint) (ds : List Decision) → length ds ≡ length list → IsForward (Implies n) (Has is_strongest ds) list (map is_left ds) (length list) → TellsFirstPass n list ds
forward_first_pass n list ds many forward =
    tells is_strongest is_left FirstPass (λ (at : ℕ) (c : Constraint). Implies n (marked (take at (map is_left ds)) (take at list)) c) list ds first_pass-lacks many forward

pub left_same_below : (n : ℕ) (list : List Constraint) (ds es : List Decision) (bound : ℕ) → length ds ≡ length list → length es ≡ length list → map is_strongest ds ≡ map is_strongest es → bound ≤ length list
    → IsForward (Implies n) (Has is_strongest ds) list (map is_left ds) bound → TellsFirstPass n list es → take bound (map is_left ds) ≡ take bound (map is_left es)
left_same_below n list ds es bound md me same le fd te =
    let ld = length-map ds is_left in
    let lengths = length-map es is_left in
    forward_same (Implies n) (Has is_strongest ds) list (map is_left ds) (map is_left es) bound (omega (arith, ld)) (omega (arith, lengths)) fd
    (λ place lt q. first_pass_forward n list es me te place (omega arith) (ap (λ (l : List Bool). get_or l place false) (sym same) ∙ q)) (agree is_strongest is_left ds es left-strongest (md ∙ sym me) same)

pub left_same : (n : ℕ) (list : List Constraint) (ds es : List Decision) → length ds ≡ length list → length es ≡ length list → map is_strongest ds ≡ map is_strongest es → TellsFirstPass n list ds → TellsFirstPass n list es
    → map is_left ds ≡ map is_left es
left_same n list ds es md me same td te =
    let ld = length-map ds is_left in
    let le = length-map es is_left in
    whole (map is_left ds) (map is_left es) (length list) (omega (arith, ld)) (omega (arith, le)) (left_same_below n list ds es (length list) md me same (omega arith) (first_pass_forward n list ds md td) te)

-- ---- second pass

pub second_pass_backward : (n : ℕ) (list : List Constraint) (ds : List Decision) → length ds ≡ length list → TellsSecondPass n list ds
    → IsBackward (ImpliesWith n list (map is_left ds)) (Has is_left ds) list (map is_kept ds) 0
second_pass_backward n list ds many told place from lt holds =
    lacks is_left is_kept SecondPass (λ (at : ℕ) (c : Constraint). ImpliesWith n list (map is_left ds) at (marked (drop (suc at) (map is_kept ds)) (drop (suc at) list)) c) list ds second_pass-lacks many told place lt holds

pub backward_second_pass : (n : ℕ) (list : List Constraint) (ds : List Decision) → length ds ≡ length list → IsBackward (ImpliesWith n list (map is_left ds)) (Has is_left ds) list (map is_kept ds) 0
    → TellsSecondPass n list ds
backward_second_pass n list ds many backward =
    tells is_left is_kept SecondPass (λ (at : ℕ) (c : Constraint). ImpliesWith n list (map is_left ds) at (marked (drop (suc at) (map is_kept ds)) (drop (suc at) list)) c) list ds second_pass-lacks many
    (λ place lt holds. backward place (omega arith) lt holds)

pub kept_same_from : (n : ℕ) (list : List Constraint) (ds es : List Decision) (left bound : ℕ) → bound + left ≡ length list → length ds ≡ length list → length es ≡ length list → map is_left ds ≡ map is_left es
    → IsBackward (ImpliesWith n list (map is_left ds)) (Has is_left ds) list (map is_kept ds) bound → TellsSecondPass n list es → drop bound (map is_kept ds) ≡ drop bound (map is_kept es)
kept_same_from n list ds es left bound e md me same bd te =
    let ld = length-map ds is_kept in
    let le = length-map es is_kept in
    let back : IsBackward (ImpliesWith n list (map is_left es)) (Has is_left es) list (map is_kept es) 0 = second_pass_backward n list es me te in
    backward_same (ImpliesWith n list (map is_left ds)) (Has is_left ds) list (map is_kept ds) (map is_kept es) left bound (ld ∙ md) (le ∙ me) e bd
    (λ place from lt q.
    let there : Has is_left es place = ap (λ (l : List Bool). get_or l place false) (sym same) ∙ q in
    rw same (back place (omega arith) lt there))
    (agree is_left is_kept ds es kept-left (md ∙ sym me) same)

-- ---- all

-- decisions with the same marks
pub decision_same : (d e : Decision) → as_sifted d ≡ as_sifted e → ((by : ℕ) → d ≡ Weaker by → e ≡ Weaker by) → ((by : ℕ) → e ≡ Weaker by → d ≡ Weaker by) → is_left d ≡ is_left e → is_kept d ≡ is_kept e
    → (d ≡ Untested → e ≡ Untested) → (e ≡ Untested → d ≡ Untested) → d ≡ e
decision_same (Weaker by) e c f g l k u v = sym (f by refl)
decision_same d (Weaker by) c f g l k u v = g by refl
decision_same Untested e c f g l k u v = sym (u refl)
decision_same d Untested c f g l k u v = v refl
decision_same Kept Kept c f g l k u v = refl
decision_same Conflict Conflict c f g l k u v = refl
decision_same FirstPass FirstPass c f g l k u v = refl
decision_same SecondPass SecondPass c f g l k u v = refl
decision_same Beyond Beyond c f g l k u v = refl
decision_same d e c f g l k u v = cc

sifted-same : (d e : Decision) → IsTrue (is_told d) → IsTrue (is_told e) → is_consistent d ≡ is_consistent e → as_sifted d ≡ as_sifted e
sifted-same Beyond e t u c = cc
sifted-same Conflict Conflict t u c = refl
sifted-same d Beyond t u c = cc
sifted-same Conflict e t u c = cc
sifted-same d Conflict t u c = cc
sifted-same d e t u c = refl

not-untested : (d : Decision) → IsTrue (is_told d) → d ≡ Untested → ⊥
not-untested d t e = let u : is_told Untested ≡ true = rw e at t in cc

pub reduced_unique : (n : ℕ) (list : List Constraint) (ds es : List Decision) → IsReduced n list ds → IsReduced n list es → ds ≡ es
reduced_unique n list ds es hd he =
    let consistent = consistent_same n list ds es hd.as_many he.as_many hd.none_at_limit he.none_at_limit hd.conflicts he.conflicts in
    let strongest = strongest_same list ds es hd.as_many he.as_many consistent hd.weaker he.weaker in
    let left = left_same n list ds es hd.as_many he.as_many strongest hd.first_pass he.first_pass in
    let kept : map is_kept ds ≡ map is_kept es =
    kept_same_from n list ds es (length list) 0 (omega arith) hd.as_many he.as_many left (second_pass_backward n list ds hd.as_many hd.second_pass) he.second_pass in
    let md = hd.as_many in
    let me = he.as_many in
    ext_get_or Kept ds es (md ∙ sym me) (λ place lt.
    let in_list : place < length list = omega arith in
    let le : place < length es = omega arith in
    let td : IsTrue (is_told (get_or ds place Kept)) = sym (mark-of is_told ds place lt) ∙ told-all ds hd.none_at_limit place lt in
    let te : IsTrue (is_told (get_or es place Kept)) = sym (mark-of is_told es place le) ∙ told-all es he.none_at_limit place le in
    decision_same (get_or ds place Kept) (get_or es place Kept) (sifted-same (get_or ds place Kept) (get_or es place Kept) td te (same-mark is_consistent ds es place lt le consistent))
    (weaker_same list ds es md me consistent hd.weaker he.weaker place in_list) (weaker_same list es ds me md (sym consistent) he.weaker hd.weaker place in_list) (same-mark is_left ds es place lt le left)
    (same-mark is_kept ds es place lt le kept) (λ e. absurd (not-untested (get_or ds place Kept) td e)) (λ e. absurd (not-untested (get_or es place Kept) te e)))
