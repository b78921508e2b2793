pub mod WorkedValues
