-- Worked draws: what three seeds give for four clients, as tools/load_draws.py works it out.
use Rattle.std.specs.Prelude.{◌≡◌, ℕ, ◌-◌, ◌^◌, List, [], ◌∷◌, map, take, Some, pos, neg_ℤ}
use Rattle.stx_scenario.specs.declared.scenario.Stmt.{Stmt}
use Rattle.stx_base.specs.Weight.{body_of}
use Rattle.stx_load.specs.Generated.{generated, method_no}

-- a payment of k from account i to account j
abbrev pub pays : ℕ → ℕ → ℕ → List Stmt
pays i j k =
    Stmt.Need (record { 0 = i }) (pos k)
    ∷ Stmt.Add (record { 0 = i }) (neg_ℤ (pos k))
    ∷ Stmt.Add (record { 0 = j }) (pos k)
    ∷ Stmt.Call (method_no 64) (Some (record { 0 = 3 }))
    ∷ Stmt.Call (method_no 65) (Some (record { 0 = 3 }))
    ∷ Stmt.Publish (record { 0 = 0 })
    ∷ []

-- the bodies of t00, t01 and t63, all calls and the first 20 turns that a seed gives for four clients
pub record IsWorkedOut (seed : ℕ) (bodies : List (List Stmt)) (calls : List (List ℕ)) (turns : List ℕ) : Type 0 where
  pub bodies_are : map (body_of (generated seed 4)) (method_no 0 ∷ method_no 1 ∷ method_no 63 ∷ []) ≡ bodies
  pub calls_are : map (map (λ method. method.0)) (generated seed 4).clients ≡ calls
  pub turns_are : take 20 (generated seed 4).schedule ≡ turns

abbrev pub DrawsAreWorkedOut : Type 0
DrawsAreWorkedOut =
    IsWorkedOut 0
    (pays 15 9 38 ∷ pays 4 10 42 ∷ pays 13 0 48 ∷ [])
    ((13 ∷ 25 ∷ 1 ∷ 15 ∷ 29 ∷ 23 ∷ 1 ∷ 2 ∷ []) ∷ (10 ∷ 9 ∷ 3 ∷ 27 ∷ 56 ∷ 16 ∷ 43 ∷ 3 ∷ []) ∷ (40 ∷ 57 ∷ 41 ∷ 1 ∷ 36 ∷ 42 ∷ 56 ∷ 49 ∷ []) ∷ (32 ∷ 0 ∷ 25 ∷ 14 ∷ 13 ∷ 33 ∷ 43 ∷ 62 ∷ []) ∷ [])
    (1 ∷ 2 ∷ 0 ∷ 1 ∷ 1 ∷ 2 ∷ 0 ∷ 1 ∷ 0 ∷ 2 ∷ 2 ∷ 1 ∷ 1 ∷ 3 ∷ 2 ∷ 0 ∷ 1 ∷ 3 ∷ 3 ∷ 1 ∷ [])
    ×
    IsWorkedOut 7
    (pays 14 10 4 ∷ pays 1 12 20 ∷ pays 8 11 19 ∷ [])
    ((12 ∷ 48 ∷ 54 ∷ 55 ∷ 26 ∷ 39 ∷ 22 ∷ 26 ∷ []) ∷ (60 ∷ 5 ∷ 53 ∷ 48 ∷ 41 ∷ 18 ∷ 31 ∷ 44 ∷ []) ∷ (30 ∷ 21 ∷ 46 ∷ 18 ∷ 52 ∷ 45 ∷ 3 ∷ 32 ∷ []) ∷ (21 ∷ 37 ∷ 5 ∷ 49 ∷ 61 ∷ 32 ∷ 23 ∷ 17 ∷ []) ∷ [])
    (0 ∷ 1 ∷ 2 ∷ 0 ∷ 2 ∷ 1 ∷ 1 ∷ 0 ∷ 0 ∷ 0 ∷ 2 ∷ 2 ∷ 2 ∷ 1 ∷ 2 ∷ 0 ∷ 3 ∷ 2 ∷ 0 ∷ 1 ∷ [])
    ×
    IsWorkedOut (2 ^ 64 - 1)
    (pays 8 1 28 ∷ pays 2 12 38 ∷ pays 5 15 45 ∷ [])
    ((50 ∷ 13 ∷ 3 ∷ 9 ∷ 39 ∷ 20 ∷ 35 ∷ 35 ∷ []) ∷ (40 ∷ 9 ∷ 59 ∷ 24 ∷ 58 ∷ 62 ∷ 8 ∷ 61 ∷ []) ∷ (41 ∷ 62 ∷ 59 ∷ 16 ∷ 16 ∷ 51 ∷ 18 ∷ 33 ∷ []) ∷ (52 ∷ 58 ∷ 0 ∷ 45 ∷ 7 ∷ 33 ∷ 0 ∷ 32 ∷ []) ∷ [])
    (0 ∷ 3 ∷ 0 ∷ 2 ∷ 3 ∷ 2 ∷ 2 ∷ 3 ∷ 2 ∷ 0 ∷ 3 ∷ 2 ∷ 3 ∷ 2 ∷ 3 ∷ 0 ∷ 3 ∷ 0 ∷ 0 ∷ 3 ∷ [])
