-- The whole report of a log of one event, computed.
use Rattle.std.proofs.Common.{◌≡◌, ℕ, List, [], ◌∷◌, ◌++◌, codes, refl}
use Rattle.serde_json.proofs.OnLiterals.{serde_json_on_literals}
use Rattle.std.specs.Fmt.{digits}
use Rattle.decl_base.specs.Fraction.{Fraction}
use Rattle.template_core.specs.declared.kind.Kind.{Kind}
use Rattle.template_core.specs.declared.kind.Kind.TheVariants.{Init, End, Participation, AtMostOne, Exactly}
use Rattle.template_core.specs.declared.repertoire.Repertoire.TheVariants.{First, Second}
use Rattle.scoring.specs.declared.scored.Scored.{Scored}
use Rattle.reduce_model.specs.declared.decision.Decision.TheVariants.{Kept, Weaker, FirstPass, Beyond, Untested}
use Rattle.model_json.specs.Report.{model_report, scores_report, report_text}

abbrev whole : Fraction
whole = record { num = 1; den = 1 }

abbrev of_one : Kind → Scored
of_one kind = record { constraint = record { kind = kind; first = 0; second = 0 }; support = whole; confidence = whole; interest = whole }

abbrev scores : List ℕ
scores = codes "\"confidence\":[1,1],\"interest\":[1,1],\"parameters\":[[\"a\"]],\"support\":[1,1],\"template\":"

one_event : report_text (model_report (codes "a" ∷ []) First (of_one Init ∷ of_one End ∷ of_one Participation ∷ of_one AtMostOne ∷ [])
    (Kept ∷ FirstPass ∷ Weaker 0 ∷ Kept ∷ []) ([] ∷ (0 ∷ 0 ∷ []) ∷ []) (0 ∷ []) 1 1)
    ≡ codes "{\"constraints\":[{" ++ scores ++ codes "\"Init\",\"witness\":[]},{" ++ scores ++ codes "\"AtMostOne\",\"witness\":[\"a\",\"a\"]}],\"dropped\":[{"
    ++ scores ++ codes "\"End\",\"why\":\"first-pass\"},{\"by\":{\"parameters\":[[\"a\"]],\"template\":\"Init\"}," ++ scores
    ++ codes "\"Participation\",\"why\":\"weaker\"}],\"events\":1,\"example\":[\"a\"],\"tasks\":[\"a\"],\"traces\":1}\n"
unfolding serde_json_on_literals digits
one_event = refl

second_repertoire : report_text (scores_report (codes "a" ∷ []) Second (of_one (Exactly 2) ∷ []) 1 2)
    ≡ codes "{\"constraints\":[{" ++ scores ++ codes "\"Exactly2\"}],\"events\":2,\"tasks\":[\"a\"],\"traces\":1,\"version\":2}\n"
unfolding serde_json_on_literals digits
second_repertoire = refl

untested_one : report_text (model_report (codes "a" ∷ []) First (of_one Init ∷ of_one End ∷ []) (Untested ∷ Beyond ∷ []) [] [] 1 1)
    ≡ codes "{\"constraints\":[{" ++ scores ++ codes "\"Init\",\"untested\":true}],\"dropped\":[{" ++ scores
    ++ codes "\"End\",\"why\":\"beyond\"}],\"events\":1,\"example\":[],\"tasks\":[\"a\"],\"traces\":1}\n"
unfolding serde_json_on_literals digits
untested_one = refl
