-- Small models, read by the definition.
use Rattle.std.proofs.Common.{◌≡◌, [], ◌∷◌, codes, refl, Ok, Err}
use Rattle.std.specs.Str.{is_utf8, chars}
use Rattle.serde_json.proofs.OnLiterals.{serde_json_on_literals}
use Rattle.decl_base.specs.declared.refusal.Refusal.TheVariants.{NotJson, ModelShape, UnknownTemplate, Parameters, SameParameter}
use Rattle.template_core.specs.declared.kind.Kind.TheVariants.{Response, Init, Exactly}
use Rattle.model_json.specs.Model.{model_of_bytes}

record SmallModels : Type 0 where
  response : model_of_bytes (codes "{\"constraints\":[{\"template\":\"Response\",\"parameters\":[[\"a\"],[\"b\"]],\"support\":0.98}]}")
      ≡ Ok (record { names = codes "a" ∷ codes "b" ∷ []; constraints = record { kind = Response; first = 0; second = 1 } ∷ [] })
  no_json : model_of_bytes (codes "{") ≡ Err NotJson
  a_list : model_of_bytes (codes "[]") ≡ Err (ModelShape 0)
  unknown : model_of_bytes (codes "{\"constraints\":[{\"template\":\"Respond\",\"parameters\":[[\"a\"],[\"b\"]]}]}") ≡ Err (UnknownTemplate 1)
  too_few : model_of_bytes (codes "{\"constraints\":[{\"template\":\"Response\",\"parameters\":[[\"a\"]]}]}") ≡ Err (Parameters 1)
  two_texts : model_of_bytes (codes "{\"constraints\":[{\"template\":\"Response\",\"parameters\":[[\"a\",\"b\"],[\"c\"]]}]}") ≡ Err (Parameters 1)
  twice : model_of_bytes (codes "{\"constraints\":[{\"template\":\"Response\",\"parameters\":[[\"a\"],[\"a\"]]}]}") ≡ Err (SameParameter 1)
  second_item : model_of_bytes (codes "{\"tasks\":[\"b\"],\"version\":1,\"constraints\":[{\"template\":\"Init\",\"parameters\":[[\"a\"]]},{\"template\":7,\"parameters\":[]}]}")
      ≡ Err (ModelShape 2)
  tasks_first : model_of_bytes (codes "{\"tasks\":[\"b\",\"b\"],\"version\":2.0,\"constraints\":[{\"template\":\"Init\",\"parameters\":[[\"a\"]]}]}")
      ≡ Ok (record { names = codes "b" ∷ codes "a" ∷ []; constraints = record { kind = Init; first = 1; second = 1 } ∷ [] })
  counted : model_of_bytes (codes "{\"version\":2,\"constraints\":[{\"template\":\"Exactly2\",\"parameters\":[[\"a\"]]}]}")
      ≡ Ok (record { names = codes "a" ∷ []; constraints = record { kind = Exactly 2; first = 0; second = 0 } ∷ [] })
  counted_in_the_first : model_of_bytes (codes "{\"constraints\":[{\"template\":\"Exactly2\",\"parameters\":[[\"a\"]]}]}") ≡ Err (UnknownTemplate 1)
  another_version : model_of_bytes (codes "{\"version\":3,\"constraints\":[]}") ≡ Err (ModelShape 0)

read_so : SmallModels
unfolding serde_json_on_literals is_utf8 chars
read_so = record {
  response = refl;
  no_json = refl;
  a_list = refl;
  unknown = refl;
  too_few = refl;
  two_texts = refl;
  twice = refl;
  second_item = refl;
  tasks_first = refl;
  counted = refl;
  counted_in_the_first = refl;
  another_version = refl;
}
