-- The groups of the templates, and what goes by group.
use Rattle.std.specs.Prelude.{ℕ, Bool, not, ◌==◌, nat_lt}
use Rattle.template_core.specs.declared.group.Activation.{Activation}
use Rattle.template_core.specs.declared.group.Activation.TheVariants as by
use Rattle.template_core.specs.declared.group.Group.{Group}
use Rattle.template_core.specs.declared.group.Group.TheVariants.{Existence, Relation, Mutual, Negative}
use Rattle.template_core.specs.declared.kind.Kind.{Kind}
use Rattle.template_core.specs.declared.kind.Kind.TheVariants.{Init, End, Participation, AtMostOne, ChainSuccession, AlternateSuccession, Succession, CoExistence, ChainResponse, AlternateResponse, Response, ChainPrecedence, AlternatePrecedence, Precedence, RespondedExistence, NotCoExistence, NotSuccession, NotChainSuccession, Exactly, AtLeast, AtMost, NotRespondedExistence, NotResponse, NotPrecedence, NotChainResponse, NotChainPrecedence}

-- the group of a template, and of a relation template which activity activates it
abbrev pub group_of : Kind → Group
group_of Init = Existence
group_of End = Existence
group_of Participation = Existence
group_of AtMostOne = Existence
group_of ChainSuccession = Mutual
group_of AlternateSuccession = Mutual
group_of Succession = Mutual
group_of CoExistence = Mutual
group_of ChainResponse = Relation by.First
group_of AlternateResponse = Relation by.First
group_of Response = Relation by.First
group_of ChainPrecedence = Relation by.Second
group_of AlternatePrecedence = Relation by.Second
group_of Precedence = Relation by.Second
group_of RespondedExistence = Relation by.First
group_of NotCoExistence = Negative
group_of NotSuccession = Negative
group_of NotChainSuccession = Negative
group_of (Exactly n) = Existence
group_of (AtLeast n) = Existence
group_of (AtMost n) = Existence
group_of NotRespondedExistence = Relation by.First
group_of NotResponse = Relation by.First
group_of NotPrecedence = Relation by.Second
group_of NotChainResponse = Relation by.First
group_of NotChainPrecedence = Relation by.Second

-- the activation and the target of a relation template over a and b
abbrev pub activation_of : {A : Type 0} → Activation → A → A → A
activation_of by.First a b = a
activation_of by.Second a b = b

abbrev pub target_of : {A : Type 0} → Activation → A → A → A
target_of by.First a b = b
target_of by.Second a b = a

-- the number of a template's activities
abbrev pub activities_of : Group → ℕ
activities_of Existence = 1
activities_of (Relation activation) = 2
activities_of Mutual = 2
activities_of Negative = 2

-- the ranks of one activity stand twice, those of two differ
abbrev pub takes_in : Group → ℕ → ℕ → Bool
takes_in Existence first second = first == second
takes_in (Relation activation) first second = not (first == second)
takes_in Mutual first second = not (first == second)
takes_in Negative first second = not (first == second)

-- which two ranks a template takes: of CoExistence and NotCoExistence, where the order says nothing, the smaller is first
abbrev pub takes : Kind → ℕ → ℕ → Bool
takes CoExistence first second = nat_lt first second
takes NotCoExistence first second = nat_lt first second
takes kind first second = takes_in (group_of kind) first second
