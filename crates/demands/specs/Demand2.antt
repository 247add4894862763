-- Demand 2, as one statement about a planner: texts read back exactly, each with one text only; the checker says yes exactly for
-- well-formed trees whose strategy is dynamic and viable. proofs/Demand2Theorem.antt proves it of this planner,
-- proofs/FurtherImpostors.antt refutes it of others. To be believed, for demand 2.
use Rattle.std.specs.Prelude.{◌≡◌, ◌↔◌, true, List, ◌++◌, ℕ, ◌≤◌, length, take, drop}
use Rattle.network.specs.Strategy.{Strategy, Viable, Dynamic}
use Rattle.network.specs.Tree.{Tree, strategy_of}
use Rattle.plan.specs.declared.Plan.{Plan}
use Rattle.plan.specs.Answer.{fine}
use Rattle.plan.specs.Plan.{network_of}
use Rattle.plan.specs.WellFormed.{WellFormed}
use Rattle.frame.specs.Frame.{Bytes}
use Rattle.tree.specs.Nodes.{most_bytes, legal_length, node_count, first_nodes}
use Rattle.tree.specs.Trees.{Describes}
use Rattle.plan_text.specs.PlanText.{plan_text}
use Rattle.tree_text.specs.TreeText.{tree_text}
use Rattle.demands.specs.Planner.{Planner}
use Rattle.demands.specs.EachCall.{Sized}

-- what is written of a plan, or of a tree's bytes, into a buffer
abbrev pub plan_text_in : Planner → Plan → List ℕ → List ℕ
plan_text_in P p xs = take (P.writes_plan p xs).value (P.plan_written p xs)

abbrev pub tree_text_in : Planner → List ℕ → List ℕ → List ℕ
tree_text_in P bs xs = take (P.writes_tree bs xs).value (P.tree_written bs xs)

-- the bytes describe this strategy: that of a tree that is sound in shape and has just these bytes
abbrev pub DescribesStrategy : Plan → List ℕ → Strategy → Type 0
DescribesStrategy p bs σ = (t : Tree) × Describes (network_of p) bs t × (strategy_of (network_of p) t ≡ σ)

pub record Demand2 (P : Planner) : Type 0 where
  -- Plan texts. A text reads as a plan exactly where the plan is well formed and the text is its own: so each has one text only.
  pub plan_exactly : (t : List ℕ) (p : Plan) → Sized p → (P.reads_plan t ≡ fine p) ↔ ((t ≡ plan_text p) × WellFormed p)
  -- what writing leaves in any buffer with room reads back
  pub plan_back :
      (p : Plan) → WellFormed p → Sized p → (xs : List ℕ) → length (plan_text p) ≤ length xs →
      (P.writes_plan p xs ≡ fine (length (plan_text p))) × (P.reads_plan (plan_text_in P p xs) ≡ fine p)
  -- no two plans are written as one text
  pub plan_one :
      (p q : Plan) → WellFormed p → WellFormed q → Sized p → Sized q → (xs ys : List ℕ) → length (plan_text p) ≤ length xs →
      length (plan_text q) ≤ length ys → plan_text_in P p xs ≡ plan_text_in P q ys → p ≡ q
  -- Tree texts. A text reads as a tree's bytes, into any buffer with room, exactly where they have a legal length and the text is their own.
  pub tree_exactly :
      (t bs xs : List ℕ) → Bytes bs → most_bytes ≤ length xs →
      ((P.reads_tree t xs ≡ fine (node_count bs)) × (first_nodes (P.tree_read t xs) (node_count bs) ≡ bs))
      ↔ ((t ≡ tree_text bs) × (legal_length (length bs) ≡ true))
  -- what writing leaves in any buffer with room reads back, into any buffer with room
  pub tree_back :
      (bs : List ℕ) → Bytes bs → legal_length (length bs) ≡ true → (xs ys : List ℕ) → length (tree_text bs) ≤ length xs →
      most_bytes ≤ length ys →
      (P.writes_tree bs xs ≡ fine (length (tree_text bs))) × (P.reads_tree (tree_text_in P bs xs) ys ≡ fine (node_count bs))
      × (P.tree_read (tree_text_in P bs xs) ys ≡ bs ++ drop (length bs) ys)
  -- no two trees are written as one text
  pub tree_one :
      (bs cs : List ℕ) → Bytes bs → Bytes cs → legal_length (length bs) ≡ true → legal_length (length cs) ≡ true → (xs ys : List ℕ) →
      length (tree_text bs) ≤ length xs → length (tree_text cs) ≤ length ys → tree_text_in P bs xs ≡ tree_text_in P cs ys → bs ≡ cs
  -- The checker. Of any plan record and any bytes: yes exactly where the plan is well formed and the bytes describe a strategy that is dynamic
  -- and viable.
  pub yes_exactly :
      (p : Plan) (bs : List ℕ) → (P.checks p bs ≡ 0)
      ↔ (WellFormed p × ((σ : Strategy) × DescribesStrategy p bs σ × Dynamic (network_of p) σ × Viable (network_of p) σ))
  -- (whatever the planner: they describe one at most)
  pub one_strategy : (p : Plan) (bs : List ℕ) → WellFormed p → (σ τ : Strategy) → DescribesStrategy p bs σ → DescribesStrategy p bs τ → σ ≡ τ
