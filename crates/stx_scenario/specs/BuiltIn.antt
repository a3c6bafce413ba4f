-- The built-in classes in the order of their numbers, each with its name and the number of the class above it.
use Rattle.std.specs.Prelude.{ℕ, List, [], ◌∷◌, codes, Option, Some, None, slice_get}
use Rattle.std.specs.Option.{option_map}
use Rattle.stx_scenario.specs.declared.numbers.ClassNo.{ClassNo}
use Rattle.stx_scenario.specs.declared.scenario.ClassDecl.{ClassDecl}
use Rattle.stx_scenario.specs.declared.classes.BuiltIn.{BuiltIn}
use Rattle.stx_scenario.specs.declared.classes.TheConstants.{THROWABLE, EXCEPTION, ERROR, RUNTIME_EXCEPTION, ILLEGAL_STATE_EXCEPTION, ARITHMETIC_EXCEPTION, NESTED_RUNTIME_EXCEPTION, TRANSACTION_EXCEPTION, CANNOT_CREATE_TRANSACTION_EXCEPTION, NESTED_TRANSACTION_NOT_SUPPORTED_EXCEPTION, TRANSACTION_USAGE_EXCEPTION, ILLEGAL_TRANSACTION_STATE_EXCEPTION, NO_TRANSACTION_EXCEPTION, UNEXPECTED_ROLLBACK_EXCEPTION, DATA_ACCESS_EXCEPTION, CANNOT_ACQUIRE_LOCK_EXCEPTION, CANNOT_GET_JDBC_CONNECTION_EXCEPTION}

-- a class of this name below the class of that number
abbrev pub class_below : ℕ → List ℕ → ClassDecl
class_below parent name = record { name = name; parent = Some (record { 0 = parent }) }

-- all of them, from number 0 on
abbrev pub built_in : List ClassDecl
built_in = record { name = codes "Throwable"; parent = None }
    ∷ class_below 0 (codes "Exception")
    ∷ class_below 0 (codes "Error")
    ∷ class_below 1 (codes "RuntimeException")
    ∷ class_below 3 (codes "IllegalStateException")
    ∷ class_below 3 (codes "ArithmeticException")
    ∷ class_below 3 (codes "NestedRuntimeException")
    ∷ class_below 6 (codes "TransactionException")
    ∷ class_below 7 (codes "CannotCreateTransactionException")
    ∷ class_below 8 (codes "NestedTransactionNotSupportedException")
    ∷ class_below 7 (codes "TransactionUsageException")
    ∷ class_below 10 (codes "IllegalTransactionStateException")
    ∷ class_below 10 (codes "NoTransactionException")
    ∷ class_below 7 (codes "UnexpectedRollbackException")
    ∷ class_below 6 (codes "DataAccessException")
    ∷ class_below 14 (codes "CannotAcquireLockException")
    ∷ class_below 14 (codes "CannotGetJdbcConnectionException")
    ∷ []

-- the declaration of an entry of the code's table
abbrev pub declaration : BuiltIn → ClassDecl
declaration class = record { name = class.name.now; parent = class.parent }

-- the code's names for the numbers, in the order of the classes
abbrev pub constants : List ClassNo
constants = THROWABLE ∷ EXCEPTION ∷ ERROR ∷ RUNTIME_EXCEPTION ∷ ILLEGAL_STATE_EXCEPTION ∷ ARITHMETIC_EXCEPTION ∷ NESTED_RUNTIME_EXCEPTION ∷ TRANSACTION_EXCEPTION ∷ CANNOT_CREATE_TRANSACTION_EXCEPTION ∷ NESTED_TRANSACTION_NOT_SUPPORTED_EXCEPTION ∷ TRANSACTION_USAGE_EXCEPTION ∷ ILLEGAL_TRANSACTION_STATE_EXCEPTION ∷ NO_TRANSACTION_EXCEPTION ∷ UNEXPECTED_ROLLBACK_EXCEPTION ∷ DATA_ACCESS_EXCEPTION ∷ CANNOT_ACQUIRE_LOCK_EXCEPTION ∷ CANNOT_GET_JDBC_CONNECTION_EXCEPTION ∷ []

-- the name of the class with this number
abbrev pub name_of : ClassNo → Option (List ℕ)
name_of number = option_map (λ class. class.name) (slice_get built_in number.0)
