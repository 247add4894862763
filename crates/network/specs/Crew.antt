-- Definitions: a crew: the steps that it followed; what it performed and set by them, what it heard and was told. To be believed, for
-- demand 1, 2, 3.
use Rattle.std.specs.Prelude.{◌≡◌, ◌↔◌, ◌⊎◌, List, [], ◌∷◌, Bool, true, false, cond, ℕ, ◌+◌, ◌<◌}
use Rattle.network.specs.Mask.{bit, digit}
use Rattle.network.specs.Network.{Network, Scenario, Schedule, combined}
use Rattle.network.specs.Game.{Move, hears}

-- an instruction that was followed, and the outcome then reported
pub record Step : Type 0 where
  pub instruction : Move
  pub report : ℕ

-- A step performs the points of its instruction in its slot. How often x was performed; the slot of the first step that performed it.
unfoldable pub times_performed : List Step → ℕ → ℕ
times_performed [] x = 0
times_performed (st ∷ log) x = digit (bit st.instruction.points x) + times_performed log x

unfoldable pub slot_by_steps : List Step → Schedule
slot_by_steps [] x = 0
slot_by_steps (st ∷ log) x = cond (bit st.instruction.points x) st.instruction.slot (slot_by_steps log x)

-- The values so set: of the letters that a step's points disclose, its choices set the decisions and its report the conditions.
unfoldable pub value_by_steps : Network → List Step → Scenario
value_by_steps net [] l = false
value_by_steps net (st ∷ log) l =
    cond (bit st.instruction.points (net.disclosing l)) (combined net st.report st.instruction.choices l)
    (value_by_steps net log l)

-- some step has P
unfoldable pub Some : (Step → Type 0) → List Step → Type 0
Some P [] = ⊥
Some P (st ∷ log) = P st ⊎ Some P log

-- by this step the condition l, with the value v, is heard from a slot before u
abbrev pub Hears : Network → ℕ → ℕ → Bool → Step → Type 0
Hears net u l v st = (st.instruction.slot < u) × (hears net st.instruction l ≡ true) × (bit st.report l ≡ v)

-- two crews heard alike before slot u (document 01's term): the conditions heard from earlier slots, and their values, are the same for
-- both
abbrev pub HeardAlike : Network → List Step → List Step → ℕ → Type 0
HeardAlike net log log' u = (l : ℕ) (v : Bool) → Some (Hears net u l v) log ↔ Some (Hears net u l v) log'

-- They were told alike in slot u (document 01's term): both followed an instruction of that slot with the same points and choices, or
-- neither followed one.
abbrev pub ToldAlike : List Step → List Step → ℕ → Type 0
ToldAlike log log' u =
    ((m : Move) × (m.slot ≡ u) × Some (λ st. st.instruction ≡ m) log × Some (λ st. st.instruction ≡ m) log')
    ⊎ ((¬ Some (λ st. st.instruction.slot ≡ u) log) × (¬ Some (λ st. st.instruction.slot ≡ u) log'))
